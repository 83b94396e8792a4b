-- What a redirection does to a packet, byte by byte: the parts of a redirected packet, and all that stays.
use mathlib.Core.Path.{◌≡◌, sym, ap, ◌∙◌}
use mathlib.Core.Logic.{⊎_elim}
use mathlib.Core.List.{List}
use Prim.Native.Nat.{ℕ, ◌+◌, ◌-◌, ◌/◌, ◌%◌, ◌≤◌, ◌<◌}
use native.Mathlib.Omega.{arith}
use lib.ListN.{length, get_or, take, drop, length-drop}
use lib.Seq.{length-take-le, get_or-take, get_or-drop}
use lib.Dec.{ltb, lit<}
use borrow.Author.Tests.{ltb-true, ltb-false}
use Rattle.lists.proofs.Cases.{truth}
use Rattle.lists.proofs.Below.{below_take, below_drop}
use Rattle.checksum.specs.Ones.{word_at, Bytes}
use Rattle.packet.specs.Bytes.{address_at, header_length, total_length, payload_length, payload}
use Rattle.packet.specs.Redirect.{address_place, port_place, edited_address, header_edited, sum_place, transport_edited, redirected, Redirectable}
use Rattle.packet.specs.Laws.{Outside, Kept}
use Rattle.packet.specs.declared.redirect.Side.{Side}
use Rattle.packet.proofs.Places.{address_place_lem, port_place_lem}
use Rattle.packet.proofs.Parts.{on_part-length, on_part_before, on_part_part, on_part-after, on_part-at, on_part_below}
use Rattle.packet.proofs.Header.{header_edited-length, header_edited-bytes, header_edited_other, header_edited-sum, header_edited_high, header_edited_low, header_edited-drop}
use Rattle.packet.proofs.Segment.{transport_edited-length, transport_edited-bytes, transport_edited_other}

-- the transport part is as long as it says
pub payload-length : (p : List ℕ) → header_length p ≤ total_length p → total_length p ≤ length p → length (payload p) ≡ payload_length p
payload-length p h l = length-take-le _ _ (rw length-drop (omega arith))

module _ (protocol : ℕ) (side : Side) (a' port : ℕ) (p : List ℕ) (room : Redirectable protocol p) where
  abbrev q : List ℕ
  q = redirected protocol side a' port p

  abbrev edit : List ℕ → List ℕ
  edit t = transport_edited protocol (port_place side) (address_at p (address_place side)) a' port t

  -- its transport part ends at the total length, and its length is kept
  ends : header_length p + payload_length p ≡ total_length p
  ends = omega (arith, room)

  address_within : address_place side + 3 < header_length p
  address_within = omega (arith, room, address_place_lem side)

  fits : header_length p + payload_length p ≤ length (header_edited (address_place side) a' p)
  fits = rw (header_edited-length (address_place side) a' p (address_place_lem side)) (omega (arith, room))

  part_kept : take (payload_length p) (drop (header_length p) (header_edited (address_place side) a' p)) ≡ payload p
  part_kept = ap (take (payload_length p)) (header_edited-drop (address_place side) a' p (address_place_lem side) (header_length p) address_within)

  pub payload_room : sum_place protocol + 1 < length (payload p)
  payload_room = rw (payload-length p (omega (arith, room)) room.within) room.transport

  same : length (edit (take (payload_length p) (drop (header_length p) (header_edited (address_place side) a' p)))) ≡ payload_length p
  same =
      transport_edited-length protocol (port_place side) (address_at p (address_place side)) a' port _ (port_place_lem side)
      ∙ ap length part_kept
      ∙ payload-length p (omega (arith, room)) room.within

  -- ---- its parts

  pub redirected-length : length q ≡ length p
  unfolding redirected
  redirected-length = on_part-length _ _ edit _ fits same ∙ header_edited-length (address_place side) a' p (address_place_lem side)

  pub redirected-header : (n : ℕ) → n ≤ header_length p → take n q ≡ take n (header_edited (address_place side) a' p)
  unfolding redirected
  redirected-header n h = on_part_before _ _ edit _ fits same n h

  pub redirected_part : take (payload_length p) (drop (header_length p) q) ≡ edit (payload p)
  unfolding redirected
  redirected_part = on_part_part _ _ edit _ fits same ∙ ap edit part_kept

  pub redirected-rest : drop (total_length p) q ≡ drop (total_length p) p
  unfolding redirected
  redirected-rest =
      ap (λ (n : ℕ). drop n q) (sym ends)
      ∙ on_part-after _ _ edit _ fits same
      ∙ ap (λ (n : ℕ). drop n (header_edited (address_place side) a' p)) ends
      ∙ header_edited-drop (address_place side) a' p (address_place_lem side) (total_length p) (omega (arith, address_within, room))

  pub redirected-bytes : Bytes p → a' < 4294967296 → port < 65536 → Bytes q
  unfolding redirected
  redirected-bytes bytes new hp =
      let r = header_edited-bytes (address_place side) a' p (address_place_lem side) new bytes in
      let part = below_take (payload_length p) (below_drop (header_length p) r) in
      on_part_below (header_length p) (payload_length p) edit _ r (transport_edited-bytes protocol (port_place side) (address_at p (address_place side)) a' port _ (port_place_lem side) hp part)

  -- ---- its bytes

  in_header : (i : ℕ) → i < header_length p → get_or q i 0 ≡ get_or (header_edited (address_place side) a' p) i 0
  unfolding redirected
  in_header i h = on_part-at _ _ edit _ fits same i h

  in_transport : (i : ℕ) → i < payload_length p → get_or q (header_length p + i) 0 ≡ get_or (edit (payload p)) i 0
  in_transport i h =
      sym (get_or-take (payload_length p) (drop (header_length p) q) i 0 h ∙ get_or-drop (header_length p) q i 0) ∙ ap (λ (t : List ℕ). get_or t i 0) redirected_part

  past_total : (i : ℕ) → get_or q (total_length p + i) 0 ≡ get_or p (total_length p + i) 0
  past_total i = sym (get_or-drop (total_length p) q i 0) ∙ ap (λ (t : List ℕ). get_or t i 0) redirected-rest ∙ get_or-drop (total_length p) p i 0

  transport_kept : (i : ℕ) → i < payload_length p → Outside (header_length p + port_place side) 2 (header_length p + i) → Outside (header_length p + sum_place protocol) 2 (header_length p + i)
      → get_or q (header_length p + i) 0 ≡ get_or p (header_length p + i) 0
  transport_kept i h ports sum =
      in_transport i h
      ∙ transport_edited_other protocol (port_place side) (address_at p (address_place side)) a' port (payload p) (port_place_lem side) i
      (λ j l e. ports j l (omega arith)) (λ j l e. sum j l (omega arith))
      ∙ get_or-take (payload_length p) (drop (header_length p) p) i 0 h
      ∙ get_or-drop (header_length p) p i 0

  byte_kept : (i : ℕ) → Outside 10 2 i → Outside (address_place side) 4 i → Outside (header_length p + port_place side) 2 i → Outside (header_length p + sum_place protocol) 2 i
      → get_or q i 0 ≡ get_or p i 0
  byte_kept i checksum address ports sum =
      ⊎_elim
      (λ e. in_header i (ltb-true i (header_length p) e) ∙ header_edited_other (address_place side) a' p (address_place_lem side) i checksum address)
      (λ e. let past = ltb-false i (header_length p) e in
      ⊎_elim
      (λ l. let from : header_length p + (i - header_length p) ≡ i = omega arith in
      let before = ltb-true i (total_length p) l in
      rw from at (transport_kept (i - header_length p) (omega arith) (rw from ports) (rw from sum)))
      (λ l. let from : total_length p + (i - total_length p) ≡ i = omega (arith, ltb-false i (total_length p) l) in
      rw from at (past_total (i - total_length p)))
      (truth (ltb i (total_length p))))
      (truth (ltb i (header_length p)))

  pub kept : Kept protocol side p q
  kept = record { long = redirected-length; byte = byte_kept }

  -- the first ten bytes, with lengths and protocol, and the other address
  pub first-kept : (i : ℕ) → i < 10 → get_or q i 0 ≡ get_or p i 0
  first-kept i h =
      let long = room.header in
      let place = address_place_lem side in
      byte_kept i (λ j l. omega arith) (λ j l. omega arith) (λ j l. omega arith) (λ j l. omega arith)

  pub redirected-sum : word_at q 10 ≡ edited_address (word_at p 10) (address_at p (address_place side)) a'
  redirected-sum =
      rw (in_header 10 (omega (arith, room)), in_header 11 (omega (arith, room)))
      (header_edited-sum (address_place side) a' p (address_place_lem side) (omega (arith, room, address_place_lem side)))

  pub redirected_high : word_at q (address_place side) ≡ a' / 65536
  redirected_high =
      rw (in_header (address_place side) (omega (arith, address_within)), in_header (address_place side + 1) (omega (arith, address_within)))
      (header_edited_high (address_place side) a' p (address_place_lem side) (omega (arith, room, address_place_lem side)))

  pub redirected_low : word_at q (address_place side + 2) ≡ a' % 65536
  redirected_low =
      rw (in_header (address_place side + 2) (omega (arith, address_within)), in_header (address_place side + 2 + 1) (omega (arith, address_within)))
      (header_edited_low (address_place side) a' p (address_place_lem side) (omega (arith, room, address_place_lem side)))

  -- ---- its lengths and its transport part

  pub header-kept : header_length q ≡ header_length p
  header-kept = rw (first-kept 0 (lit< tt))

  pub total_kept : total_length q ≡ total_length p
  total_kept = rw (first-kept 2 (lit< tt), first-kept 3 (lit< tt))

  pub redirected-payload : payload q ≡ transport_edited protocol (port_place side) (address_at p (address_place side)) a' port (payload p)
  redirected-payload = rw (first-kept 0 (lit< tt), first-kept 2 (lit< tt), first-kept 3 (lit< tt)) redirected_part
