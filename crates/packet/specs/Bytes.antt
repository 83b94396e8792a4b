-- A packet as a list of bytes, the highest byte of a number first (RFC 791). Assumes nothing: these are definitions.
use Rattle.std.specs.Prelude.{ℕ, ◌+◌, ◌-◌, ◌*◌, ◌/◌, ◌%◌, List, ◌++◌, get_or, take, drop, set}
use Rattle.checksum.specs.Ones.{word_at}

-- the address whose first byte stands at a place
abbrev pub address_at : List ℕ → ℕ → ℕ
address_at p at = word_at p at * 65536 + word_at p (at + 2)

-- a word written at a place
abbrev pub set_word : List ℕ → ℕ → ℕ → List ℕ
set_word b at w = set (set b at (w / 256)) (at + 1) (w % 256)

-- an address written at a place
abbrev pub set_address : List ℕ → ℕ → ℕ → List ℕ
set_address b at a = set_word (set_word b at (a / 65536)) (at + 2) (a % 65536)

-- a list with the k elements from place a on changed by f, and no others
abbrev pub on_part : ℕ → ℕ → (List ℕ → List ℕ) → List ℕ → List ℕ
on_part a k f l = take a l ++ (f (take k (drop a l)) ++ drop k (drop a l))

-- the IP header's own length, in bytes
abbrev pub header_length : List ℕ → ℕ
header_length p = get_or p 0 0 % 16 * 4

-- the total length, in bytes, header included
abbrev pub total_length : List ℕ → ℕ
total_length p = word_at p 2

-- "Payload means total length less header length" (SCOPE 7.2)
abbrev pub payload_length : List ℕ → ℕ
payload_length p = total_length p - header_length p

-- the header
abbrev pub header : List ℕ → List ℕ
header p = take (header_length p) p

-- the transport part, which begins where the IP header's own length says (SCOPE 7.1) and ends at the total length
abbrev pub payload : List ℕ → List ℕ
payload p = take (payload_length p) (drop (header_length p) p)
