-- Bytes past the total length are neither read nor written: two packets that differ there alone are read, or refused, alike, and redirected alike.
use mathlib.Core.Path.{◌≡◌, refl, sym, ap, ◌∙◌}
use mathlib.Core.List.{List, ◌++◌}
use mathlib.Core.Logic.{⊎_elim}
use mathlib.Core.Bool.{Bool, true, false, cond, not, true≢false}
use Prim.Native.Nat.{ℕ, ◌+◌, ◌≤◌, ◌<◌}
use native.Mathlib.Nat.{le_refl}
use native.Mathlib.Omega.{arith}
use lib.ListN.{length, get_or, take, drop}
use lib.Seq.{length-take-le, drop_at, take-take, take-add, get_or-take}
use borrow.Author.Tests.{le-ltb}
use lib.Dec.{eqb}
use Rattle.std.proofs.Common.{Ok, Err}
use Rattle.lists.proofs.Cases.{truth}
use Rattle.checksum.specs.Ones.{word_at}
use Rattle.packet.specs.Bytes.{address_at, header_length, total_length, payload_length, payload}
use Rattle.packet.specs.Reading.{broken, header_verifies, fragment, header_of, read_transport, with_transport, on_header, read_packet, Whole}
use Rattle.packet.specs.Redirect.{address_place, redirected, Redirectable}
use Rattle.packet.specs.Laws.{SameUpToTotal, PastTotal}
use Rattle.packet.specs.declared.read.Fault.{Fault}
use Rattle.packet.specs.declared.read.Packet.{Packet}
use Rattle.packet.specs.declared.redirect.Side.{Side}
use Rattle.packet.proofs.Places.{address_place_lem}
use Rattle.packet.proofs.Whole.{whole}
use Rattle.packet.proofs.Header.{header-set}
use Rattle.packet.proofs.Redirected.{redirected-header, redirected_part, redirected-rest}
use Rattle.packet.proofs.Taken.{accepted, redirectable}

-- either of the two may be called the first
same_back : (p p' : List ℕ) → SameUpToTotal p p' → SameUpToTotal p' p
same_back p p' same = record {
  total = sym same.total;
  within = rw same.total same.within';
  within' = rw same.total same.within;
  bytes = rw same.total (sym same.bytes);
}

-- the first of two such packets is not malformed
module _ (p p' : List ℕ) (same : SameUpToTotal p p') (intact : broken p ≡ false) where
  w : Whole p
  w = whole p intact

  byte : (i : ℕ) → i < 20 → get_or p' i 0 ≡ get_or p i 0
  byte i h =
      let l : i < total_length p = omega (arith, w) in
      sym (get_or-take (total_length p) p' i 0 l) ∙ ap (λ (b : List ℕ). get_or b i 0) same.bytes ∙ get_or-take (total_length p) p i 0 l

  word : (i : ℕ) → i + 1 < 20 → word_at p' i ≡ word_at p i
  word i h = rw (byte i (omega arith), byte (i + 1) h)

  header_same : header_length p' ≡ header_length p
  header_same = rw (byte 0 (omega arith))

  head : take (header_length p) p' ≡ take (header_length p) p
  head =
      sym (take-take (header_length p) (total_length p) p' w.ordered)
      ∙ ap (take (header_length p)) same.bytes
      ∙ take-take (header_length p) (total_length p) p w.ordered

  -- the bytes up to the total length are header and payload, in any list
  split : (l : List ℕ) → take (total_length p) l ≡ take (header_length p) l ++ take (payload_length p) (drop (header_length p) l)
  split l =
      let ends : header_length p + payload_length p ≡ total_length p = omega (arith, w) in
      ap (λ (n : ℕ). take n l) (sym ends) ∙ take-add (header_length p) (payload_length p) l

  -- so the payload is what is left of them past the header
  left : (l : List ℕ) → header_length p ≤ length l → drop (header_length p) (take (total_length p) l) ≡ take (payload_length p) (drop (header_length p) l)
  left l long = ap (drop (header_length p)) (split l) ∙ drop_at (take (header_length p) l) _ (header_length p) (length-take-le (header_length p) l long)

  part : take (payload_length p) (drop (header_length p) p') ≡ payload p
  part = sym (left p' (omega (arith, w, same.within'))) ∙ ap (drop (header_length p)) same.bytes ∙ left p (omega (arith, w))

  unbroken : broken p' ≡ false
  unfolding broken
  unbroken =
      let long : 20 ≤ length p = w.long in
      let long' : 20 ≤ length p' = omega (arith, w, same.within') in
      rw (byte 0 (omega arith), byte 2 (omega arith), byte 3 (omega arith), le-ltb (length p') 20 long', le-ltb (length p') (total_length p) same.within')
      (rw (le-ltb (length p) 20 long, le-ltb (length p) (total_length p) same.within) at intact)

  valid_same : header_verifies p' ≡ header_verifies p
  valid_same = rw (header_same, head)

  fragment_same : fragment p' ≡ fragment p
  unfolding fragment
  fragment_same = rw (byte 6 (omega arith), byte 7 (omega arith))

  fields_same : header_of p' ≡ header_of p
  fields_same =
      rw (
        byte 0 (omega arith),
        same.total,
        byte 9 (omega arith),
        word 12 (omega arith),
        word 14 (omega arith),
        word 16 (omega arith),
        word 18 (omega arith),
      )

  read_intact : (protocol : ℕ) → read_packet protocol p' ≡ read_packet protocol p
  unfolding read_packet
  read_intact protocol = rw (unbroken, intact, valid_same, fragment_same, fields_same) (by_tests (header_verifies p) (fragment p))
    where
      by_tests : (v f : Bool)
          → let h = cond (not v) (Err Fault.BadChecksum) (cond f (Err Fault.Fragment) (Ok (header_of p))) in
          on_header protocol p' h ≡ on_header protocol p h
      by_tests false f = refl
      by_tests true true = refl
      by_tests true false =
          ap (λ (t : List ℕ). cond (not (eqb (get_or p 9 0) protocol)) (Err Fault.OtherProtocol) (with_transport (header_of p) (read_transport protocol t))) part

  -- both can be redirected
  module _ (protocol : ℕ) (side : Side) (a' port : ℕ) (can : Redirectable protocol p) (can' : Redirectable protocol p') where
    abbrev q : List ℕ
    q = redirected protocol side a' port p

    abbrev q' : List ℕ
    q' = redirected protocol side a' port p'

    address_same : address_at p' (address_place side) ≡ address_at p (address_place side)
    address_same =
        let place = address_place_lem side in
        rw (word (address_place side) (omega arith), word (address_place side + 2) (omega arith))

    header_alike : take (header_length p) q' ≡ take (header_length p) q
    header_alike =
        let place = address_place_lem side in
        let n = header_length p in
        let long = same.within' in
        redirected-header protocol side a' port p' can' n (rw header_same (le_refl n))
        ∙ header-set (address_place side) a' p' place n (omega (arith, w)) (omega (arith, w))
        ∙ rw (head, word 10 (omega arith), address_same) (sym (header-set (address_place side) a' p place n (omega (arith, w)) (omega (arith, w))))
        ∙ sym (redirected-header protocol side a' port p can n (le_refl n))

    part_alike : take (payload_length p) (drop (header_length p) q') ≡ take (payload_length p) (drop (header_length p) q)
    part_alike =
        (rw (header_same, same.total, address_same, part) at (redirected_part protocol side a' port p' can'))
        ∙ sym (redirected_part protocol side a' port p can)

    redirected_alike : take (total_length p) q' ≡ take (total_length p) q
    redirected_alike = rw (split q', split q, header_alike, part_alike)

pub read_alike : (protocol : ℕ) (p p' : List ℕ) → SameUpToTotal p p' → read_packet protocol p' ≡ read_packet protocol p
unfolding read_packet
read_alike protocol p p' same =
    ⊎_elim
    (λ (e : broken p ≡ true). rw (e, both_broken e))
    (λ (e : broken p ≡ false). read_intact p p' same e protocol)
    (truth (broken p))
  where
    both_broken : broken p ≡ true → broken p' ≡ true
    both_broken e =
        ⊎_elim
        (λ (e' : broken p' ≡ true). e')
        (λ (e' : broken p' ≡ false). absurd (true≢false (sym e ∙ unbroken p' p (same_back p p' same) e')))
        (truth (broken p'))

pub past_total : (protocol : ℕ) (side : Side) (a' port : ℕ) (p p' : List ℕ) (r : Packet) → read_packet protocol p ≡ Ok r → SameUpToTotal p p'
    → PastTotal protocol side a' port p p'
past_total protocol side a' port p p' r taken same =
    let can = redirectable protocol p r taken in
    let can' = redirectable protocol p' r (read_alike protocol p p' same ∙ taken) in
    record {
      unwritten = redirected-rest protocol side a' port p can;
      unread = redirected_alike p p' same (accepted protocol p r taken).intact protocol side a' port can can';
    }
