-- What setting a port does to a transport part: with the address's words its checksum stays congruent, and every other byte is as it was.
use mathlib.Core.Path.{◌≡◌, refl, ◌∙◌}
use mathlib.Core.Logic.{◌≢◌}
use mathlib.Core.List.{List}
use mathlib.Core.Bool.{false}
use Prim.Native.Nat.{ℕ, ◌+◌, ◌/◌, ◌%◌, ◌<◌}
use native.Mathlib.Omega.{arith}
use lib.ListN.{length, get_or, length-set}
use lib.Dec.{eqb, lit<}
use borrow.Author.Tests.{eq-eqb, ne_eqb, eqb-true, eqb-false}
use Rattle.checksum.specs.Ones.{word_at, words_of, Bytes}
use Rattle.lists.proofs.Cases.{by_test}
use Rattle.checksum.proofs.Totals.{total}
use Rattle.checksum.proofs.Edits.{Congruent, edited_congruent, edited-fits}
use Rattle.packet.specs.Bytes.{set_word}
use Rattle.packet.specs.Redirect.{edited_address, sum_place, transmitted, udp_written, sum_written, transport_sum, transport_edited}
use Rattle.packet.specs.Laws.{Outside}
use Rattle.packet.proofs.Places.{Even, sum_place_lem}
use Rattle.packet.proofs.Written.{word_below, set_word-length, set_word_other, set_word_same, set_word_apart, set_word-bytes, total-set_word}
use Rattle.packet.proofs.Header.{address_congruent}

-- the checksum written fits its word
written_below : (protocol sum s : ℕ) → s < 65536 → sum_written protocol sum s < 65536
unfolding sum_written
written_below protocol sum s h =
    let fits : ℕ → Type 0 = λ n. n < 65536 in
    by_test fits (eqb protocol 6) s (udp_written sum s) (λ e. h)
    (λ e. by_test fits (eqb sum 0) 0 (transmitted s) (λ e. lit< tt)
    (λ e. by_test fits (eqb s 0) 65535 s (λ e. lit< tt) (λ e. h)))

-- UDP's FFFF for 0 is congruent to it; UDP's 0 for no checksum is left out
written_congruent : (protocol sum s : ℕ) → (eqb protocol 6 ≡ false → sum ≢ 0) → Congruent (sum_written protocol sum s) s
unfolding sum_written
written_congruent protocol sum s udp =
    let like_s : ℕ → Type 0 = λ n. Congruent n s in
    by_test like_s (eqb protocol 6) s (udp_written sum s) (λ e. record { x = 0; y = 0; balanced = refl })
    (λ other. by_test like_s (eqb sum 0) 0 (transmitted s) (λ e. absurd (udp other (eqb-true sum 0 e)))
    (λ e. by_test like_s (eqb s 0) 65535 s (λ z. record { x = 0; y = 1; balanced = omega (arith, eqb-true s 0 z) }) (λ z. record { x = 0; y = 0; balanced = refl })))

-- TCP's is the edited one; UDP's is 0 exactly where it was
module _ (protocol sum s : ℕ) where
  pub tcp_written : protocol ≡ 6 → sum_written protocol sum s ≡ s
  unfolding sum_written
  tcp_written tcp = rw (eq-eqb protocol 6 tcp)

  pub udp_none : protocol ≢ 6 → sum ≡ 0 → sum_written protocol sum s ≡ 0
  unfolding sum_written
  udp_none udp zero = rw (ne_eqb protocol 6 udp, eq-eqb sum 0 zero)

  pub udp_some : protocol ≢ 6 → sum ≢ 0 → sum_written protocol sum s ≢ 0
  unfolding sum_written
  udp_some udp some = rw (ne_eqb protocol 6 udp, ne_eqb sum 0 some) (by_test (λ (n : ℕ). n ≢ 0) (eqb s 0) 65535 s (λ e. omega arith) (λ e. eqb-false s 0 e))

-- a transport part whose port at an even place and whose checksum were written
module _ (protocol at a a' port : ℕ) (t : List ℕ) (place : Even 0 2 at) where
  abbrev sum : ℕ
  sum = sum_written protocol (word_at t (sum_place protocol)) (transport_sum protocol at a a' port t)

  pub transport_edited-length : length (transport_edited protocol at a a' port t) ≡ length t
  unfolding transport_edited
  transport_edited-length = simp length-set

  pub transport_edited-bytes : port < 65536 → Bytes t → Bytes (transport_edited protocol at a a' port t)
  unfolding transport_edited
  transport_edited-bytes hp bytes = set_word-bytes (sum_place protocol) (written_below protocol _ _ (edited-fits _ _ _)) (set_word-bytes at hp bytes)

  pub transport_edited_other : (i : ℕ) → Outside at 2 i → Outside (sum_place protocol) 2 i → get_or (transport_edited protocol at a a' port t) i 0 ≡ get_or t i 0
  unfolding transport_edited
  transport_edited_other i h l =
      set_word_other (set_word t at port) (sum_place protocol) sum i (omega (arith, l 0 (lit< tt))) (l 1 (lit< tt))
      ∙ set_word_other t at port i (omega (arith, h 0 (lit< tt))) (h 1 (lit< tt))

  module _ (room : sum_place protocol + 1 < length t) where
    within : sum_place protocol + 1 < length (set_word t at port)
    within = rw set_word-length room

    pub transport_edited-sum : word_at (transport_edited protocol at a a' port t) (sum_place protocol) ≡ sum_written protocol (word_at t (sum_place protocol)) (transport_sum protocol at a a' port t)
    unfolding transport_edited
    transport_edited-sum = set_word_same (set_word t at port) (sum_place protocol) sum within

    pub transport_edited_port : word_at (transport_edited protocol at a a' port t) at ≡ port
    unfolding transport_edited
    transport_edited_port =
        let past = sum_place_lem protocol in
        set_word_apart (set_word t at port) (sum_place protocol) sum at (omega (arith, place)) (omega (arith, place)) (omega (arith, place))
        ∙ set_word_same t at port (omega (arith, place))

    transport_edited-total : total (words_of (transport_edited protocol at a a' port t)) + (word_at t at + word_at t (sum_place protocol)) ≡ total (words_of t) + (port + sum)
    unfolding transport_edited
    transport_edited-total =
        let past = sum_place_lem protocol in
        let e₁ = total-set_word t place.half at port place.even (omega (arith, place)) in
        let e₂ = rw (set_word_apart t at port (sum_place protocol) (omega (arith, place)) (omega (arith, place)) (omega (arith, place)))
        at (total-set_word (set_word t at port) past.half (sum_place protocol) sum past.even within) in
        omega arith

    -- its total and the address's words stay congruent
    pub transport_edited_congruent : Bytes t → a < 4294967296 → a' < 4294967296 → port < 65536 → (eqb protocol 6 ≡ false → word_at t (sum_place protocol) ≢ 0)
        → Congruent (total (words_of (transport_edited protocol at a a' port t)) + (a' / 65536 + a' % 65536)) (total (words_of t) + (a / 65536 + a % 65536))
    transport_edited_congruent bytes old new hp udp =
        let s = word_at t (sum_place protocol) in
        let e₁ = address_congruent s a a' (word_below t (sum_place protocol) bytes) old new in
        let e₂ = edited_congruent (edited_address s a a') (word_at t at) port (edited-fits _ _ _) (word_below t at bytes) hp in
        let e₃ = written_congruent protocol s (transport_sum protocol at a a' port t) udp in
        let whole = transport_edited-total in
        record { x = e₁.x + (e₂.x + e₃.x); y = e₁.y + (e₂.y + e₃.y); balanced = omega arith }
