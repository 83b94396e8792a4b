-- What the chains over the servers come to, against the rules, the search and the counts as specs/ says them. Assumes nothing.
use Prim.Native.Nat.{ℕ, zero, suc, ◌-◌, ◌≤◌, ◌<◌, min}
use mathlib.Core.Bool.{Bool, true, false, not, ◌&&◌, ◌||◌}
use mathlib.Core.List.{List}
use mathlib.Core.Logic.{⊎_elim}
use mathlib.Core.Path.{◌≡◌, refl, sym, ap, ◌∙◌}
use native.Mathlib.Numerals.{add-one}
use native.Mathlib.Omega.{arith}
use borrow.Author.Rules.{rules}
use borrow.Author.Tests.{ltb-true, ltb-false, lt-ltb, le-ltb}
use lib.Dec.{eqb, ltb}
use lib.ListN.{length, get_or, take, drop}
use Rattle.std.specs.Prelude.{Option, Some, None}
use Rattle.std.specs.List.{list_all, list_any, position, position_or_len, enumerate_from, zip}
use Rattle.std.proofs.lemmas.List.{length-take-le, get_or-take}
use Rattle.std.proofs.lemmas.List.Folds.{list_any_more}
use Rattle.std.proofs.lemmas.List.FromFn.{length-enumerate_from, get_or-enumerate_from}
use Rattle.std.proofs.lemmas.List.Quantifiers.{position-Some}
use Rattle.lists.specs.Fold.{fold_below, all_below}
use Rattle.lists.proofs.Cases.{truth, second}
use Rattle.lists.proofs.Chains.{all_up_to, all_places_pass, all_between, none_before, get_or-beside}
use Rattle.lists.proofs.Numbers.{all_same}
use Rattle.servers.specs.declared.Server.{Server}
use Rattle.servers.specs.declared.ServerNo.{ServerNo}
use Rattle.servers.specs.declared.rules.Rule.TheVariants.{New, UnusedFrom}
use Rattle.servers.specs.Servers.{unused, server_at}
use Rattle.servers.specs.Rules.{is_at, is_zero, or_else, number_of, is_nobody, all_keep}
use Rattle.servers.specs.Tally.{counts_agree}
use Rattle.servers.proofs.Endpoints.{met}

-- a server has the count beside it
abbrev pub agrees : Server × ℕ → Bool
agrees p = eqb p.0.count p.1

pub agree_below : (counts : List ℕ) (s : List Server) (n : ℕ) → length s ≡ length counts → list_all agrees (take n (zip s counts)) ≡ counts_agree counts s n
agree_below counts s n h =
    all_up_to agrees (zip s counts) (unused, 0) refl n
    ∙ all_same _ _ n (λ j g. ap agrees (get_or-beside s counts unused 0 j h))

-- the places from the first unused one to n
pub unused_from : (s : List Server) (a n : ℕ) → n ≤ length s → list_all is_zero (take (n - min a n) (drop (min a n) s)) ≡ all_keep (UnusedFrom a) s n
unused_from s a n h =
    all_between is_zero s unused (min a n) (n - min a n) (omega arith)
    ∙ ap (all_below (λ k. ltb k (min a n) || is_zero (server_at s k))) (omega arith)
    ∙ all_same _ _ n (λ k g. ap (λ (b : Bool). b || is_zero (server_at s k)) (below_least k g))
  where
    below_least : (k : ℕ) → k < n → ltb k (min a n) ≡ ltb k a
    below_least k g =
        ⊎_elim
        (λ (e : ltb k a ≡ true). let under : k < a = ltb-true k a e in lt-ltb k (min a n) (omega arith) ∙ sym e)
        (λ (e : ltb k a ≡ false). let past : a ≤ k = ltb-false k a e in le-ltb k (min a n) (omega arith) ∙ sym e)
        (truth (ltb k a))

-- no lower one is at a server's address and port, as the chain asks it
abbrev pub is_new_at : List Server → ℕ × Server → Bool
is_new_at s p = not (list_any (is_at p.1.address p.1.port) (take p.0 s))

module _ (s : List Server) where
  not_or : (a b : Bool) → not (a || b) ≡ (not a && not b)
  not_or true b = refl
  not_or false b = refl

  none_else : (k : ℕ) (passes : Bool) (f : Option ServerNo) → is_nobody (or_else k passes f) ≡ (is_nobody f && not passes)
  none_else k passes (Some i) = refl
  none_else k true None = refl
  none_else k false None = refl

  -- nobody is found among the first k where none is there
  nobody_below : (address port k : ℕ) → k ≤ length s → not (list_any (is_at address port) (take k s)) ≡ is_nobody (number_of s address port k)
  unfolding fold_below
  nobody_below address port zero h = refl
  nobody_below address port (suc k) h =
      let more : list_any (is_at address port) (take (suc k) s) ≡ (list_any (is_at address port) (take k s) || is_at address port (server_at s k)) =
      rw add-one at (list_any_more (is_at address port) s k unused h) in
      rw (more, not_or (list_any (is_at address port) (take k s)) (is_at address port (server_at s k)), nobody_below address port k (omega arith))
      (sym (none_else k (is_at address port (server_at s k)) (number_of s address port k)))

  pub new_below : (n : ℕ) → n ≤ length s → list_all (is_new_at s) (enumerate_from 0 (take n s)) ≡ all_keep New s n
  new_below n h =
      all_places_pass (is_new_at s) each (0, unused)
      ∙ ap (all_below (λ k. is_new_at s (get_or each k (0, unused)))) (length-enumerate_from 0 (take n s) ∙ length-take-le n s h)
      ∙ all_same _ _ n (λ k g. ap (is_new_at s) (at k g) ∙ nobody_below (server_at s k).address (server_at s k).port k (omega arith))
    where
      each : List (ℕ × Server)
      each = enumerate_from 0 (take n s)

      at : (k : ℕ) → k < n → get_or each k (0, unused) ≡ (k, server_at s k)
      at k g =
          get_or-enumerate_from 0 (take n s) k (0, unused) (omega (arith, length-take-le n s h)) ∙ search (rules, get_or-take n s k unused g)

  -- the place that the chain finds, and that it finds none
  none_among : (address port n : ℕ) → ((k : ℕ) → k < n → is_at address port (server_at s k) ≡ false) → number_of s address port n ≡ None
  unfolding fold_below
  none_among address port zero none = refl
  none_among address port (suc n) none = rw (none_among address port n (λ k g. none k (omega arith)), none n (omega arith)) refl

  pub placed : (address port n i : ℕ) → n ≤ length s → position (is_at address port) (take n s) ≡ Some i → Some (record { 0 = i }) ≡ number_of s address port n
  placed address port n i h e =
      let (within, here, lower) = position-Some (is_at address port) (take n s) i unused e in
      let short = length-take-le n s h in
      met s address port i n (omega arith)
      (none_among address port i (λ k g. rw (get_or-take n s k unused (omega arith)) at (lower k g)))
      (rw (get_or-take n s i unused (omega arith)) at here)

  pub not_placed : (address port n : ℕ) → n ≤ length s → position (is_at address port) (take n s) ≡ None → None ≡ number_of s address port n
  not_placed address port n h e = sym (none_among address port n failed)
    where
      past : length (take n s) ≤ position_or_len (is_at address port) (take n s)
      past = ltb-false _ _ (second _ (Some (position_or_len (is_at address port) (take n s))) None None (λ q. cc) e).0

      failed : (k : ℕ) → k < n → is_at address port (server_at s k) ≡ false
      failed k g =
          let in_front : k < length (take n s) = omega (arith, length-take-le n s h) in
          rw (get_or-take n s k unused g) at (none_before (is_at address port) (take n s) unused k (omega (arith, past)) in_front)
