-- Schedulers 3 and 4 find the least loaded server, and of equals the one of the lowest number. Assumes nothing.
use mathlib.Core.Bool.{Bool, true, false, cond}
use mathlib.Core.List.{List}
use mathlib.Core.Logic.{⊎_elim}
use mathlib.Core.Path.{◌≡◌, refl, ap}
use Prim.Native.Nat.{ℕ, zero, suc, ◌+◌, ◌-◌, ◌*◌, ◌<◌, ◌≤◌}
use native.Mathlib.Nat.{le_refl, le_of_lt, eq-or-lt_of_le, lt_of_lt_of_le, lt_of_mul-lt-mul_right, mul-le-mul_right, mul-lt-mul_of_pos_right, mul_right_comm}
use native.Mathlib.Omega.{arith}
use lib.Dec.{eqb}
use borrow.Author.Count.{below_more}
use borrow.Author.Tests.{ltb-true, ltb-false, lt-ltb, le-ltb, eqb-true, eqb-false}
use Rattle.servers.specs.Servers.{server_at, weight_at}
use Rattle.scheduler.specs.LeastLoaded.{load_beside, lighter_by, against, better_of, least_of, pick_least}
use Rattle.scheduler.specs.Scheduler.{holding}
use Rattle.scheduler.specs.Laws.{SomeWeight, IsLeast, LeastLaw, Picking}
use Rattle.servers.specs.declared.Server.{Server}
use Rattle.servers.specs.declared.ServerNo.{ServerNo}
use Rattle.scheduler.specs.declared.least_loaded.Load.{Load}
use Rattle.lists.proofs.Cases.{by_test}
use Rattle.lists.proofs.Folds.{fold_none, fold_next, fold_holds}

-- b / wb < c / wc and c / wc ≤ a / wa give b / wb < a / wa, in cross products
crossed : (a wa b wb c wc : ℕ) → 0 < wa → b * wc < c * wb → c * wa ≤ a * wc → b * wa < a * wb
crossed a wa b wb c wc w h g =
    lt_of_mul-lt-mul_right wc
    (lt_of_lt_of_le {m = c * wb * wa}
    (rw (mul_right_comm b wa wc) (mul-lt-mul_of_pos_right h w))
    (rw (mul_right_comm c wb wa, mul_right_comm a wb wc) (mul-le-mul_right wb g)))

lighter_trans_by : (by : Load) (a b c : Server) → 0 < a.weight
    → load_beside by b c < load_beside by c b → load_beside by c a ≤ load_beside by a c → load_beside by b a < load_beside by a b
lighter_trans_by Load.Count a b c w h g = lt_of_lt_of_le h g
lighter_trans_by Load.PerWeight a b c w h g = crossed a.count a.weight b.count b.weight c.count c.weight w h g

-- no server carries less than itself
lighter_same : (by : Load) (a : Server) → lighter_by by a a ≡ false
lighter_same by a = le-ltb (load_beside by a a) (load_beside by a a) (le_refl _)

-- of two, not each carries less than the other
lighter_asym : (by : Load) (a b : Server) → lighter_by by a b ≡ true → lighter_by by b a ≡ false
lighter_asym by a b h = le-ltb (load_beside by b a) (load_beside by a b) (le_of_lt (ltb-true (load_beside by a b) (load_beside by b a) h))

-- b carries less than c, and a no less than c: b carries less than a
lighter_trans : (by : Load) (a b c : Server) → 0 < a.weight → lighter_by by b c ≡ true → lighter_by by a c ≡ false → lighter_by by b a ≡ true
lighter_trans by a b c w h g =
    lt-ltb (load_beside by b a) (load_beside by a b)
    (lighter_trans_by by a b c w (ltb-true (load_beside by b c) (load_beside by c b) h) (ltb-false (load_beside by a c) (load_beside by c a) g))

module _ (by : Load) (s : List Server) where
  -- the best of the first k servers, from server 0 on: the least loaded, where some weight is above 0
  abbrev Best : ℕ → ServerNo → Type 0
  Best k r = (r.0 ≤ k) × (SomeWeight s k → IsLeast by s k r.0)

  -- server k, where no server before it weighs
  alone : (k : ℕ) → 0 < weight_at s k → ((j : ℕ) → j < k → 0 < weight_at s j → ⊥) → IsLeast by s (k + 1) k
  alone k w none =
      record {
        below = omega arith;
        weighs = w;
        least = below_more _ k (λ j h v. absurd (none j h v)) (λ v. lighter_same by _);
        first = λ j h v. absurd (none j h v);
      }

  -- a server that carries less than the best takes its place
  replaced : (k r : ℕ) → IsLeast by s k r → 0 < weight_at s k → lighter_by by (server_at s k) (server_at s r) ≡ true → IsLeast by s (k + 1) k
  replaced k r p w l =
      record {
        below = omega arith;
        weighs = w;
        least = below_more _ k (λ j h v. lighter_asym by _ _ (beats j h v)) (λ v. lighter_same by _);
        first = beats;
      }
    where
      beats : (j : ℕ) → j < k → 0 < weight_at s j → lighter_by by (server_at s k) (server_at s j) ≡ true
      beats j h v = lighter_trans by (server_at s j) (server_at s k) (server_at s r) v l (p.least j h v)

  -- a server that weighs nothing or carries no less leaves the best
  kept : (k r : ℕ) → IsLeast by s k r → (0 < weight_at s k → lighter_by by (server_at s k) (server_at s r) ≡ false) → IsLeast by s (k + 1) r
  kept k r p l =
      record {
        below = omega (arith, p.below);
        weighs = p.weighs;
        least = below_more _ k p.least l;
        first = p.first;
      }

  -- where server k weighs nothing, one that weighs is among the k before it
  fewer : (k : ℕ) → weight_at s k ≡ 0 → (j : ℕ) → j < k + 1 → 0 < weight_at s j → SomeWeight s k
  fewer k w = below_more _ k (λ j h v. (j, h, v)) (λ v. absurd (omega arith))

  -- server k, which weighs, beside the best r
  module _ (k : ℕ) (r : ServerNo) (best : Best k r) (w : 0 < weight_at s k) where
    -- where r weighs nothing, no server before k does
    unweighed : weight_at s r.0 ≡ 0 → (j : ℕ) → j < k → 0 < weight_at s j → ⊥
    unweighed z j h v = omega (arith, (best.1 (j, h, v)).weighs)

    -- r is k itself where no server before it weighs, as at the start
    itself : r.0 ≡ k → (j : ℕ) → j < k → 0 < weight_at s j → ⊥
    itself e j h v = omega (arith, (best.1 (j, h, v)).below)

    lighter : lighter_by by (server_at s k) (server_at s r.0) ≡ true → 0 < weight_at s r.0 → IsLeast by s (k + 1) k
    lighter l v =
        ⊎_elim (λ e. alone k w (itself e)) (λ h. replaced k r.0 (best.1 (r.0, h, v)) w l) (eq-or-lt_of_le best.0)

    heavier : lighter_by by (server_at s k) (server_at s r.0) ≡ false → 0 < weight_at s r.0 → IsLeast by s (k + 1) r.0
    heavier l v =
        ⊎_elim (λ e. rw e (alone k w (itself e))) (λ h. kept k r.0 (best.1 (r.0, h, v)) (λ _. l)) (eq-or-lt_of_le best.0)

    compared : Best (k + 1) (against by s k r)
    compared =
        by_test (Best (k + 1)) (eqb (weight_at s r.0) 0) _ _
        (λ e. (omega arith, λ some. alone k w (unweighed (eqb-true (weight_at s r.0) 0 e))))
        (λ e.
        let v : 0 < weight_at s r.0 = omega (arith, eqb-false (weight_at s r.0) 0 e) in
        by_test (Best (k + 1)) (lighter_by by (server_at s k) (server_at s r.0)) _ _
        (λ l. (omega arith, λ some. lighter l v)) (λ l. (omega (arith, best.0), λ some. heavier l v)))

  step : (k : ℕ) (r : ServerNo) → Best k r → Best (k + 1) (better_of by s r k)
  step k r best =
      by_test (Best (k + 1)) (eqb (weight_at s k) 0) _ _
      (λ e.
      let z = eqb-true (weight_at s k) 0 e in
      (omega (arith, best.0), λ some. kept k r.0 (best.1 (fewer k z some.0 some.1 some.2)) (λ v. absurd (omega arith))))
      (λ e. compared k r best (omega (arith, eqb-false (weight_at s k) 0 e)))

-- a choice of two that are the same
same_choice : {A : Type 0} (t : Bool) (x : A) → cond t x x ≡ x
same_choice true x = refl
same_choice false x = refl

-- server 0 is the best of one, so a loop may begin with server 1
pub least_one : (by : Load) (s : List Server) → least_of by s 1 ≡ record { 0 = 0 }
least_one by s = rw (fold_next _ _ 0, fold_none, same_choice, same_choice, same_choice)

-- a loop from 1 on that has come to n or past it
pub least-done : (by : Load) (s : List Server) (n i : ℕ) → 1 ≤ i → i - 1 ≤ n - 1 → n ≤ i → least_of by s i ≡ least_of by s n
least-done by s zero i above most done = let one : i ≡ 1 = omega arith in rw (one, least_one by s, fold_none)
least-done by s (suc n) i above most done = ap (least_of by s) (omega arith)

pub least_found : LeastLaw
least_found by s n = (fold_holds (better_of by s) (record { 0 = 0 }) (Best by s) (le_refl 0, λ some. absurd (omega (arith, some.1))) (step by s) n).1

-- the least loaded is picked, and the walk is left as it was
pub least-picking : (by : Load) → Picking (holding (pick_least by))
least-picking by s n w some range =
    let p = least_found by s n some in
    record { server = p.below; weighs = p.weighs; range = range }
