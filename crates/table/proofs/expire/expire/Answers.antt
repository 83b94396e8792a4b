-- `expire::expire` meets its contract. The invariant: what is done, with what is still to do, is the whole, and the table is sound (`Expiring`).
use Prim.Native.Nat.{◌-◌, ◌<◌}
use mathlib.Core.Path.{ap, ◌∙◌}
use native.Mathlib.Omega.{arith}
use Rattle.table.specs.declared.expire.Limits.{Limits}
use Rattle.table.specs.declared.slot.Slot.{Slot}
use Rattle.table.specs.Slots.{slot_at}
use Rattle.table.proofs.Connections.{recent_stays}
use Rattle.table.proofs.Expiry.{start, keep, named, remove, done}
use Rattle.table.proofs.expire.expire.Goals as goal
use Rattle.table.proofs.expire.expire.Goals.{then-slot_at-limits+then-is_idle, then-slot_at-limits+else-is_idle, else-slot_at-limits}

pub loop-k-init : goal.loop-k-init
loop-k-init c = (omega arith, start c.args.protocol c.args.n c.args.clock c.args.row.now c.args.servers.now c.requires.1 c.told-servers)

pub lower-requires : goal.lower-requires
lower-requires c = named c.loop-k.invariant.1 (omega arith) (cc) c.slot_at-slot.ensures (omega arith)

pub overflow_add-removed : goal.overflow_add-removed
overflow_add-removed c = omega (arith, c.loop-k.invariant.1)

pub loop-k-preserved : goal.loop-k-preserved
loop-k-preserved c =
    let a = c.args in
    let l = c.loop-k in
    let inv = l.invariant.1 in
    elim c.if-slot_at-limits.branch [
      | then-slot_at-limits+then-is_idle w ↦
          (omega arith, rw (w.row-is ∙ w.free_slot.ensures, w.servers-is ∙ w.lower.ensures, w.removed-is) (remove inv (omega arith) (cc) w.slot_at-slot.ensures))
      | then-slot_at-limits+else-is_idle w ↦ (omega arith, rw (w.row-is, w.servers-is, w.removed-is) (keep inv (omega arith) (cc)))
      | else-slot_at-limits w ↦
          let seen = ap (λ (s : Slot). s.seen) c.slot_at.ensures in
          let recent : a.clock - 120 < (slot_at l.row l.k).seen = omega (arith, seen, ap (λ (x : Limits). x.recent) c.at-limits.ensures) in
          (omega arith, rw (w.row-is, w.servers-is, w.removed-is) (keep inv (omega arith) (recent_stays a.protocol a.clock (slot_at l.row l.k) recent)))
    ]

pub returns-clause-row : goal.returns-clause-row
returns-clause-row c = (done c.loop-k.invariant.1 (omega arith)).0

pub returns-clause-servers : goal.returns-clause-servers
returns-clause-servers c = (done c.loop-k.invariant.1 (omega arith)).1

pub returns-clause-removed : goal.returns-clause-removed
returns-clause-removed c = (done c.loop-k.invariant.1 (omega arith)).2
