-- What the definitions are proved to mean. Assumes nothing: these are statements; each `..Law` is proved in proofs/.
use Rattle.std.specs.Prelude.{Bool, true, false, List, ◌↔◌, ◌≡◌, ℕ, zero, suc, ◌+◌, ◌%◌, ◌<◌, ◌≤◌, Option, Some, None}
use Rattle.std.specs.Int.{◌∣◌}
use Rattle.servers.specs.Servers.{server_at, weight_at, with_weight, with_count}
use Rattle.servers.specs.declared.Server.{Server}
use Rattle.servers.specs.declared.ServerNo.{ServerNo}
use Rattle.scheduler.specs.Weights.{weights_gcd, largest_of, weights_of, weights_agree, none_weighs}
use Rattle.scheduler.specs.Ring.{after_in, next_of, ring_of}
use Rattle.scheduler.specs.Scheduler.{Scheduler}
use Rattle.scheduler.specs.RoundRobin.{round_robin}
use Rattle.scheduler.specs.WeightedRoundRobin.{level_at, reaches}
use Rattle.scheduler.specs.LeastLoaded.{lighter_by, least_of}
use Rattle.scheduler.specs.ByNumber.{scheduler_of, start_of, in_range, after_weight, pick_of}
use Rattle.scheduler.specs.declared.least_loaded.Load.{Load}
use Rattle.scheduler.specs.declared.weights.Weights.{Weights}
use Rattle.scheduler.specs.declared.walk.Walk.{Walk}
use Rattle.scheduler.specs.declared.walk.Pick.{Pick}

-- 1. The weights

-- g divides each of the first n weights, and whatever divides those above 0 divides g: zeros don't affect it
pub record IsGcd (s : List Server) (n g : ℕ) : Type 0 where
  pub divides : (j : ℕ) → j < n → g ∣ weight_at s j
  pub greatest : (d : ℕ) → ((j : ℕ) → j < n → 0 < weight_at s j → d ∣ weight_at s j) → d ∣ g

abbrev pub GcdLaw : Type 0
GcdLaw = (s : List Server) (n : ℕ) → IsGcd s n (weights_gcd s n)

-- no weight of the first n is above m, and some server has it
pub record IsLargest (s : List Server) (n m : ℕ) : Type 0 where
  pub above : (j : ℕ) → j < n → weight_at s j ≤ m
  pub met : 0 < n → (j : ℕ) × (j < n) × (weight_at s j ≡ m)

abbrev pub LargestLaw : Type 0
LargestLaw = (s : List Server) (n : ℕ) → IsLargest s n (largest_of s n)

-- each of the first n weights is 0
abbrev pub EachZero : List Server → ℕ → Type 0
EachZero s n = (j : ℕ) → j < n → weight_at s j ≡ 0

-- some weight of the first n is above 0
abbrev pub SomeWeight : List Server → ℕ → Type 0
SomeWeight s n = (j : ℕ) × (j < n) × (0 < weight_at s j)

-- with the numbers held true, the test for refusal 14 passes exactly where each weight is 0, and fails exactly where some weight is above 0
abbrev pub NoWeightLaw : Type 0
NoWeightLaw =
    (held : Weights) (s : List Server) (n : ℕ) → held ≡ weights_of s n
    → ((none_weighs held ≡ true) ↔ EachZero s n) × ((none_weighs held ≡ false) ↔ SomeWeight s n)

-- where each weight is 0, the largest and the divisor are 0
abbrev pub ZeroLaw : Type 0
ZeroLaw = (s : List Server) (n : ℕ) → EachZero s n → weights_of s n ≡ record { largest = 0; divisor = 0 }

-- the numbers held pass the test for refusal 15 exactly where they are those that the weights give
abbrev pub AgreeLaw : Type 0
AgreeLaw = (held : Weights) (s : List Server) (n : ℕ) → (weights_agree held s n ≡ true) ↔ (held ≡ weights_of s n)

-- a count set to c changes neither number
abbrev pub SameWeightsLaw : Type 0
SameWeightsLaw = (s : List Server) (n i c : ℕ) → weights_of (with_count s i c) n ≡ weights_of s n

-- 2. Schedulers 3 and 4 (argmin)

-- r is the least loaded of the first n servers whose weight is above 0, and of equals the one of the lowest number
pub record IsLeast (by : Load) (s : List Server) (n r : ℕ) : Type 0 where
  pub below : r < n
  pub weighs : 0 < weight_at s r
  pub least : (j : ℕ) → j < n → 0 < weight_at s j → lighter_by by (server_at s j) (server_at s r) ≡ false
  pub first : (j : ℕ) → j < r → 0 < weight_at s j → lighter_by by (server_at s r) (server_at s j) ≡ true

abbrev pub LeastLaw : Type 0
LeastLaw = (by : Load) (s : List Server) (n : ℕ) → SomeWeight s n → IsLeast by s n (least_of by s n).0

-- 3. The ring, for schedulers 1 and 2

-- the number after i is (i + 1) mod n
abbrev pub AfterLaw : Type 0
AfterLaw = (n i : ℕ) → i < n → after_in n i ≡ (i + 1) % n

-- the level at the number e steps after i, where the walk comes to i at the level cw
unfoldable pub level_after : (ℕ → ℕ → ℕ) → (n e i cw : ℕ) → ℕ
level_after level n zero i cw = level i cw
level_after level n (suc e) i cw = level_after level n e (after_in n i) (level i cw)

module _ (level : ℕ → ℕ → ℕ) (picks : ℕ → ℕ → Bool) (n : ℕ) where
  -- of the k numbers (i + e) mod n, r is the first that is taken at its level, and the walk w is there at that level
  pub record IsFirst (k i cw : ℕ) (r : ServerNo) (w : Walk) : Type 0 where
    pub steps : ℕ
    pub within : steps < k
    pub number : r.0 ≡ (i + steps) % n
    pub moved : w ≡ record { place = Some r; level = level_after level n steps i cw }
    pub taken : picks r.0 (level_after level n steps i cw) ≡ true
    pub passed : (e : ℕ) → e < steps → picks ((i + e) % n) (level_after level n e i cw) ≡ false

  -- some of the k numbers (i + e) mod n is taken at its level
  abbrev pub SomeTaken : (k i cw : ℕ) → Type 0
  SomeTaken k i cw = (e : ℕ) × (e < k) × (picks ((i + e) % n) (level_after level n e i cw) ≡ true)

-- what is picked is the first of the n numbers that is taken, where one is
abbrev pub RingLaw : Type 0
RingLaw =
    (level : ℕ → ℕ → ℕ) (picks : ℕ → ℕ → Bool) (n : ℕ) (w : Walk) → 0 < n
    → let i = next_of n w.place in
    let p = ring_of level picks n w in
    SomeTaken level picks n n i w.level → IsFirst level picks n n i w.level p.server p.walk

-- r is the next number after i in the ring with weight above 0
pub record IsNext (s : List Server) (n i r : ℕ) : Type 0 where
  pub steps : ℕ
  pub above : 0 < steps
  pub within : steps ≤ n
  pub number : r ≡ (i + steps) % n
  pub weighs : 0 < weight_at s r
  pub passed : (e : ℕ) → 0 < e → e < steps → weight_at s ((i + e) % n) ≡ 0

-- round-robin, with i the last pick
abbrev pub NextLaw : Type 0
NextLaw =
    (s : List Server) (n : ℕ) (held : Weights) (i : ServerNo) (cw : ℕ) → i.0 < n → SomeWeight s n
    → IsNext s n i.0 (round_robin.pick s n held (record { place = Some i; level = cw })).server.0

-- 4. Each scheduler

-- a place that is -1 or one of the first n servers
abbrev pub Within : ℕ → Option ServerNo → Type 0
Within n None = Unit {0}
Within n (Some i) = i.0 < n

-- what keeps the walk of scheduler c in its range
pub record Ranged (c : Scheduler) : Type 0 where
  -- it is there at its start
  pub started : (top n : ℕ) → 0 < n → c.in_range top n (c.start n) ≡ true
  -- and, if it was, after a weight call: server i's weight is set to x
  pub weighed : (s : List Server) (n i x : ℕ) (w : Walk) → c.in_range (largest_of s n) n w ≡ true
      → c.in_range (largest_of (with_weight s i x) n) n (c.after_weight w (weight_at s i) x) ≡ true
  -- no other place than -1 and the n servers is in it
  pub placed : (top n : ℕ) (w : Walk) → 0 < n → c.in_range top n w ≡ true → Within n w.place

-- an existing server whose weight is above 0, and a walk in the range of scheduler c
pub record Serves (c : Scheduler) (s : List Server) (n : ℕ) (p : Pick) : Type 0 where
  pub server : p.server.0 < n
  pub weighs : 0 < weight_at s p.server.0
  pub range : c.in_range (largest_of s n) n p.walk ≡ true

-- where some weight is above 0, the walk is in its range and the numbers held are true
abbrev pub Picking : Scheduler → Type 0
Picking c =
    (s : List Server) (n : ℕ) (w : Walk) → SomeWeight s n → c.in_range (largest_of s n) n w ≡ true → Serves c s n (c.pick s n (weights_of s n) w)

-- 5. The pick

-- server i is whom scheduler k picks among the first n servers s, from the walk w to the walk w'
pub record Published (k : ℕ) (s : List Server) (n : ℕ) (w : Walk) (i : ServerNo) (w' : Walk) : Type 0 where
  -- round-robin: "picked is the next number in the ring with weight above 0" (SCOPE 10.3), after the last pick
  pub scheduler1 : k ≡ 1 → (last : ServerNo) → w.place ≡ Some last → IsNext s n last.0 i.0
  -- weighted round-robin: "The first server with weight at least cw is picked." (SCOPE 10.5)
  pub scheduler2 : k ≡ 2 → IsFirst (level_at (weights_gcd s n) (largest_of s n)) (reaches s) n n (next_of n w.place) w.level i w'
  -- least-connection: "the smallest count among weights above 0; ties to the lowest number" (SCOPE 10.8)
  pub scheduler3 : k ≡ 3 → IsLeast Load.Count s n i.0
  -- weighted least-connection: "the smallest count/weight among weights above 0, compared by cross products; ties to the lowest number" (SCOPE 10.9)
  pub scheduler4 : k ≡ 4 → IsLeast Load.PerWeight s n i.0

-- p is whom scheduler k picks from the walk w: an existing server whose weight is above 0, the published scheduler's, with the walk after it in range
pub record IsPick (k : ℕ) (s : List Server) (n : ℕ) (w : Walk) (p : Pick) : Type 0 where
  pub serves : Serves (scheduler_of k) s n p
  pub published : Published k s n w p.server p.walk

-- every scheduler answers one, where some weight is above 0, the walk is in its range and the numbers held are true
abbrev pub PickLaw : Type 0
PickLaw = (k : ℕ) (s : List Server) (n : ℕ) (w : Walk) → SomeWeight s n → in_range k s n w ≡ true → IsPick k s n w (pick_of k s n (weights_of s n) w)

-- 6. The walk's range

-- the walk is in its range at its start
abbrev pub StartLaw : Type 0
StartLaw = (k : ℕ) (s : List Server) (n : ℕ) → 0 < n → in_range k s n (start_of k n) ≡ true

-- and, if it was, after a weight call: server i's weight is set to x
abbrev pub WeightLaw : Type 0
WeightLaw =
    (k : ℕ) (s : List Server) (n i x : ℕ) (w : Walk) → in_range k s n w ≡ true
    → in_range k (with_weight s i x) n (after_weight k w (weight_at s i) x) ≡ true

-- a walk in its range is at -1 or at one of the n servers
abbrev pub PlaceLaw : Type 0
PlaceLaw = (k : ℕ) (s : List Server) (n : ℕ) (w : Walk) → 0 < n → in_range k s n w ≡ true → Within n w.place
