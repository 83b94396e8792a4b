-- That counts and the walk change is no matter to whom a packet is sent on. Assumes nothing.
use Prim.Native.Nat.{ℕ}
use mathlib.Core.List.{List}
use mathlib.Core.Path.{◌≡◌, refl}
use Rattle.servers.specs.declared.Server.{Server}
use Rattle.servers.specs.Servers.{server_at, with_count}
use Rattle.servers.proofs.Kept.{field_set}
use Rattle.scheduler.specs.declared.walk.Walk.{Walk}
use Rattle.director.specs.declared.state.Service.{Service}
use Rattle.director.specs.declared.state.Director.{Director}
use Rattle.director.specs.declared.segment.Sender.{Sender}
use Rattle.director.specs.State.{with_servers}
use Rattle.director.specs.Carry.{sent_on, forwarded}

-- a packet is sent on by the server's address and port alone
pub sent_same : (g : Service) (v w : Server) (p : List ℕ) (sender : Sender) → v.address ≡ w.address → v.port ≡ w.port → sent_on g v p sender ≡ sent_on g w p sender
sent_same g v w p Sender.Client address port = rw (address, port)
sent_same g v w p (Sender.Server i) address port = refl

-- so before and after a count it is sent on alike
pub counted_forwards : (d : Director) (i c : ℕ) (walk : Walk) (k : ℕ) (p : List ℕ) (sender : Sender)
    → forwarded (with_servers d (with_count d.servers i c) walk) k p sender ≡ forwarded d k p sender
counted_forwards d i c walk k p sender =
    sent_same d.service (server_at (with_count d.servers i c) k) (server_at d.servers k) p sender
    (field_set (λ (v : Server). v.address) d.servers i k _ refl) (field_set (λ (v : Server). v.port) d.servers i k _ refl)
