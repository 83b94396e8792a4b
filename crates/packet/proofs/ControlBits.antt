-- The flags are the bits that RFC 9293's picture has, in the byte where it has them, for all 256 values of that byte. Assumes nothing.
use mathlib.Core.Path.{◌≡◌, refl, sym, ap, ◌∙◌}
use mathlib.Core.Bool.{Bool, true, false, cond}
use mathlib.Core.List.{List}
use Prim.Native.Nat.{ℕ, zero, suc, ◌+◌, ◌*◌, ◌/◌, ◌%◌, ◌≤◌, ◌<◌}
use native.Mathlib.Omega.{arith}
use lib.Dec.{eqb}
use lib.ListN.{length, get_or, drop}
use lib.Seq.{get_or-take, get_or-drop}
use borrow.Author.Tests.{ltb-false}
use Rattle.std.proofs.Common.{Ok}
use Rattle.lists.proofs.Cases.{second}
use Rattle.packet.specs.Bytes.{header_length, payload_length, payload}
use Rattle.packet.specs.Reading.{tcp_tests, tcp_malformed, flags_of, read_tcp, ports_of, read_packet}
use Rattle.packet.specs.ControlBits.{ControlBit, CWR, ECE, URG, ACK, PSH, RST, SYN, FIN, byte_of, flags_set, ControlBitsLaw}
use Rattle.packet.specs.declared.read.Packet.{Packet}
use Rattle.packet.specs.declared.read.TransportHeader.{TransportHeader}
use Rattle.packet.specs.declared.read.Fault.{Fault}
use Rattle.packet.proofs.Whole.{none, whole}
use Rattle.packet.proofs.Redirected.{payload-length}
use Rattle.packet.proofs.Taken.{refused, accepted}

-- a bit as a number
abbrev digit : Bool → ℕ
digit b = cond b 1 0

small : (b : Bool) → digit b ≤ 1
small true = omega arith
small false = omega arith

-- the test for 1 finds the bit again
tested : (b : Bool) (n : ℕ) → n ≡ digit b → eqb n 1 ≡ b
tested true n e = rw e
tested false n e = rw e

module _ (set : ControlBit → Bool) where
  flags_found : flags_of (byte_of set) ≡ flags_set set
  flags_found =
      let c = small (set CWR) in
      let e = small (set ECE) in
      let u = small (set URG) in
      let a = small (set ACK) in
      let p = small (set PSH) in
      let r = small (set RST) in
      let s = small (set SYN) in
      let f = small (set FIN) in
      let syn : (flags_of (byte_of set)).syn ≡ set SYN = tested (set SYN) (byte_of set / 2 % 2) (omega arith) in
      let ack : (flags_of (byte_of set)).ack ≡ set ACK = tested (set ACK) (byte_of set / 16 % 2) (omega arith) in
      let rst : (flags_of (byte_of set)).rst ≡ set RST = tested (set RST) (byte_of set / 4 % 2) (omega arith) in
      let fin : (flags_of (byte_of set)).fin ≡ set FIN = tested (set FIN) (byte_of set % 2) (omega arith) in
      rw (syn, ack, rst, fin)

-- the bits of a byte
bits_of : ℕ → ControlBit → Bool
bits_of b CWR = eqb (b / 128 % 2) 1
bits_of b ECE = eqb (b / 64 % 2) 1
bits_of b URG = eqb (b / 32 % 2) 1
bits_of b ACK = eqb (b / 16 % 2) 1
bits_of b PSH = eqb (b / 8 % 2) 1
bits_of b RST = eqb (b / 4 % 2) 1
bits_of b SYN = eqb (b / 2 % 2) 1
bits_of b FIN = eqb (b % 2) 1

-- a digit is the number of its test
again : (n : ℕ) → n < 2 → digit (eqb n 1) ≡ n
again zero h = refl
again (suc zero) h = refl
again (suc (suc n)) h = absurd (omega arith)

-- a number is its half with its last digit appended
appended : (half n : ℕ) → half ≡ n / 2 → 2 * half + digit (eqb (n % 2) 1) ≡ n
appended half n e = rw (again (n % 2) (omega arith)) (omega arith)

every : (b : ℕ) → b < 256 → (set : ControlBit → Bool) × (byte_of set ≡ b)
unfolding bits_of
every b h = (
  bits_of b,
  rw (
    appended 0 (b / 128) (omega arith),
    appended (b / 128) (b / 64) (omega arith),
    appended (b / 64) (b / 32) (omega arith),
    appended (b / 32) (b / 16) (omega arith),
    appended (b / 16) (b / 8) (omega arith),
    appended (b / 8) (b / 4) (omega arith),
    appended (b / 4) (b / 2) (omega arith),
    appended (b / 2) b (omega arith),
  ),
)

-- the flags that a TCP segment is read with are those of its byte 13
module _ (t : List ℕ) (h : TransportHeader) (read : read_tcp t ≡ Ok h) where
  long : 20 ≤ length t
  unfolding tcp_malformed
  long = ltb-false (length t) 20 (none (tcp_tests t) (second (tcp_malformed t) _ _ _ (refused Fault.MalformedTransport h) read).0 0)

  segment_flags : h.flags ≡ flags_of (get_or t 13 0)
  segment_flags =
      let same : ports_of t (flags_of (get_or t 13 0)) ≡ h = cc (second (tcp_malformed t) _ _ _ (refused Fault.MalformedTransport h) read).1 in
      sym (ap (λ (x : TransportHeader). x.flags) same)

-- which is byte 13 from where the IP header's own length says
packet_flags : (p : List ℕ) (r : Packet) → read_packet 6 p ≡ Ok r → r.transport.flags ≡ flags_of (get_or p (header_length p + 13) 0)
packet_flags p r taken =
    let was = accepted 6 p r taken in
    let w = whole p was.intact in
    let within : 13 < payload_length p = omega (arith, long (payload p) r.transport was.carried, payload-length p w.ordered w.within) in
    segment_flags (payload p) r.transport was.carried
    ∙ ap flags_of (get_or-take (payload_length p) (drop (header_length p) p) 13 0 within ∙ get_or-drop (header_length p) p 13 0)

pub control_bits : ControlBitsLaw
control_bits = record { every = every; read = λ p r taken set found. packet_flags p r taken ∙ ap flags_of found ∙ flags_found set }
