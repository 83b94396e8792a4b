-- Which of refusals 6 and 20 a packet gets: by whether it is whole, and then by the sum of its header's words.
use Prim.Native.Nat.{ℕ}
use mathlib.Core.Bool.{Bool, true, false, cond, not, true≢false}
use mathlib.Core.List.{List}
use mathlib.Core.Logic.{⊎_elim, ◌↔◌, ◌≢◌}
use mathlib.Core.Path.{◌≡◌, refl, sym, subst, ◌∙◌}
use native.Mathlib.Omega.{arith}
use borrow.Author.Tests.{ne_eqb, eqb-true, eqb-false}
use lib.Dec.{eqb}
use lib.ListN.{get_or}
use Rattle.std.proofs.Common.{Result, Ok, Err}
use Rattle.lists.proofs.Cases.{truth, by_test}
use Rattle.packet.specs.Bytes.{payload}
use Rattle.packet.specs.Reading.{broken, Whole, header_verifies, fragment, header_of, tcp_malformed, udp_malformed, with_transport, on_header, read_packet}
use Rattle.packet.specs.HeaderChecksum.{number_of, number_read, header_sum, HeaderChecksumLaw}
use Rattle.packet.specs.declared.read.Fault.{Fault}
use Rattle.packet.specs.declared.read.Header.{Header}
use Rattle.packet.specs.declared.read.Packet.{Packet}
use Rattle.packet.specs.declared.read.TransportHeader.{TransportHeader}
use Rattle.packet.proofs.Whole.{whole, unbroken}

-- a reading that gives neither 6 nor 20
abbrev Other : Result Packet Fault → Type 0
Other r = (number_of r ≢ 6) × (number_of r ≢ 20)

module _ (protocol : ℕ) (p : List ℕ) where
  -- what reading gives, by both tests
  gives6 : broken p ≡ true → number_read protocol p ≡ 6
  unfolding read_packet
  gives6 e = rw e

  gives20 : broken p ≡ false → header_verifies p ≡ false → number_read protocol p ≡ 20
  unfolding read_packet
  gives20 e v = rw (e, v)

  gives_other : broken p ≡ false → header_verifies p ≡ true → Other (read_packet protocol p)
  unfolding read_packet
  gives_other e v = rw (e, v)
      (by_test (λ (h : Result Header Fault). Other (on_header protocol p h)) (fragment p) _ _
      (λ _. (λ e. omega arith, λ e. omega arith))
      (λ _. by_test Other (not (eqb (get_or p 9 0) protocol)) _ _
      (λ _. (λ e. omega arith, λ e. omega arith))
      (λ _. by_test (λ (t : Result TransportHeader Fault). Other (with_transport (header_of p) t)) (eqb protocol 6) _ _
      (λ _. by_transport (tcp_malformed (payload p)) _)
      (λ _. by_transport (udp_malformed (payload p)) _))))
    where
      by_transport : (bad : Bool) (h : TransportHeader) → Other (with_transport (header_of p) (cond bad (Err Fault.MalformedTransport) (Ok h)))
      by_transport true h = (λ e. omega arith, λ e. omega arith)
      by_transport false h = (λ e. omega arith, λ e. omega arith)

  -- each of three cases, and what holds in it of the number
  by_case : (P : ℕ → Type 0)
      → (broken p ≡ true → P 6)
      → (broken p ≡ false → header_verifies p ≡ false → P 20)
      → (broken p ≡ false → header_verifies p ≡ true → P (number_read protocol p))
      → P (number_read protocol p)
  by_case P at6 at20 other =
      ⊎_elim
      (λ (e : broken p ≡ true). subst P (sym (gives6 e)) (at6 e))
      (λ (e : broken p ≡ false).
      ⊎_elim (other e) (λ (v : header_verifies p ≡ false). subst P (sym (gives20 e v)) (at20 e v)) (truth (header_verifies p)))
      (truth (broken p))

  -- 6
  at6 : (number_read protocol p ≡ 6) ↔ (Whole p → ⊥)
  at6 = (from, to)
    where
      from : number_read protocol p ≡ 6 → Whole p → ⊥
      from =
          by_case (λ n. n ≡ 6 → Whole p → ⊥) (λ e _ w. true≢false (sym e ∙ unbroken p w)) (λ e v q. absurd (omega arith)) (λ e v q. absurd ((gives_other e v).0 q))

      to : (Whole p → ⊥) → number_read protocol p ≡ 6
      to unwhole = ⊎_elim gives6 (λ (e : broken p ≡ false). absurd (unwhole (whole p e))) (truth (broken p))

  -- 20
  at20 : (number_read protocol p ≡ 20) ↔ (Whole p × (header_sum p ≢ 65535))
  at20 = (from, to)
    where
      from : number_read protocol p ≡ 20 → Whole p × (header_sum p ≢ 65535)
      from =
          by_case (λ n. n ≡ 20 → Whole p × (header_sum p ≢ 65535)) (λ e q. absurd (omega arith)) (λ e v _. (whole p e, eqb-false (header_sum p) 65535 v))
          (λ e v q. absurd ((gives_other e v).1 q))

      to : Whole p × (header_sum p ≢ 65535) → number_read protocol p ≡ 20
      to (w, wrong) = gives20 (unbroken p w) (ne_eqb (header_sum p) 65535 wrong)

  -- all else
  after : number_read protocol p ≢ 6 → number_read protocol p ≢ 20 → Whole p × (header_sum p ≡ 65535)
  after =
      by_case (λ n. n ≢ 6 → n ≢ 20 → Whole p × (header_sum p ≡ 65535)) (λ e not6 _. absurd (not6 refl)) (λ e v _ not20. absurd (not20 refl))
      (λ e v _ _. (whole p e, eqb-true (header_sum p) 65535 v))

pub header_checksum : HeaderChecksumLaw
header_checksum = record { at6 = at6; at20 = at20; after = after }
