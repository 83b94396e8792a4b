-- The reply to serving, made from the handed state's place alone, is the one that C gets. Assumes nothing.
use Prim.Native.Nat.{ℕ, ◌≤◌}
use mathlib.Core.Bool.{false}
use mathlib.Core.List.{List}
use mathlib.Core.Path.{◌≡◌, refl, ap}
use lib.ListN.{take}
use Rattle.director.specs.declared.state.Director.{Director}
use Rattle.director.specs.declared.state.Answer.{Answer}
use Rattle.director.specs.State.{is_accepted}
use Rattle.director.specs.Tick.{tick_of}
use Rattle.serving.specs.Trace.{packets_traced}
use Rattle.serving.specs.Serve.{Standing, standing, Served as ServedBy, packets_after, after_tick}
use Rattle.serving.proofs.Standings.{served_back}
use Rattle.nidhaaguf.specs.declared.state.State.{State}
use Rattle.nidhaaguf.specs.declared.reply.Reply.{Reply}
use Rattle.nidhaaguf.specs.State.{decoded}
use Rattle.nidhaaguf.specs.Reply.{reply_of, HandedIn}
use Rattle.nidhaaguf_serve.specs.Serve.{counting, ServedFrom}

module _ (given : State) (row buffer records counters : List ℕ) (clock most : ℕ) (d : Director) (a : Answer) (taken unsent end : ℕ) (row' buffer' records' counters' : List ℕ) where
  pub served_from : a ≡ (tick_of (decoded given) row clock).answer → (is_accepted a ≡ false → buffer' ≡ buffer) → (taken ≤ packets_after a (packets_traced records most)) × (unsent ≤ taken)
      → ServedBy (after_tick (decoded given) row counters records clock) (standing d row' counters' records' taken (take end buffer')) taken
      → (reply : Reply) → ((s : State) → HandedIn s given.place d a → reply ≡ reply_of s d a)
      → ServedFrom given row buffer records counters clock most (counting reply taken unsent) row' buffer' records' counters'
  served_from e unread few served reply made =
      let known : HandedIn given given.place d a = record {
        its_place = refl;
        back = λ nothing. ap (λ (s : Standing). s.director) (served_back (decoded given) row counters records clock (packets_traced records most) _ taken (rw e at few.0) (rw e at nothing) served);
      } in
      record { director = d; end = end; few = rw (← e) few.0; unread = rw e at unread; unsent = few.1; served = served; reply = rw (made given known, e) }
