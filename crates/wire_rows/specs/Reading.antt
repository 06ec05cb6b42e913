-- What a row asks.
use Rattle.std.specs.Prelude.{◌≡◌, ◌==◌, ◌+◌, ◌-◌, ◌*◌, ◌&&◌, ℕ, Bool, true, false, not, nat_le, nat_lt, List, [], ◌∷◌, Option, Some, None, Result, Ok, Err, bytes_eq, codes, drop, length, position, take, if◌then◌else◌}
use Rattle.std.specs.List.{slice_split}
use Rattle.std.specs.Result.{result_ok}
use Rattle.hex.specs.Hex.{decode_of}
use Rattle.wire_rows.specs.declared.errors.RowError.{RowError}
use Rattle.wire_rows.specs.declared.errors.RowError.TheVariants.{Bad, Memory}
use Rattle.wire_rows.specs.declared.reading.Keyword.{Keyword}
use Rattle.wire_rows.specs.declared.reading.Keyword.TheVariants as keyword
use Rattle.wire_rows.specs.declared.row.WireRow.{WireRow}
use Rattle.wire_rows.specs.declared.row.WireRow.TheVariants.{Pdu, Request, Reply, Feed, Form}

-- a call gives what reading gives, unless memory ran out
abbrev pub Reads : {T : Type 0} → Result T RowError → Option T → Type 0
Reads (Ok value) read = read ≡ Some value
Reads (Err Bad) read = read ≡ None
Reads (Err Memory) read = Unit {0}

-- go on with what was read
infixl 10 ◌>>=◌
abbrev pub ◌>>=◌ : {A B : Type 0} → Option A → (A → Option B) → Option B
None >>= f = None
(Some x) >>= f = f x

-- ---- words

-- what stands before a place, and what behind it
abbrev pub cut_at : List ℕ → Option ℕ → Option (List ℕ × List ℕ)
cut_at row None = None
cut_at row (Some at) = Some (take at row, drop (at + 1) row)

-- what stands before the first space, and what behind it
abbrev pub cut : List ℕ → Option (List ℕ × List ℕ)
cut row = cut_at row (position (λ b. b == 32) row)

-- the keyword that a word is
abbrev pub keyword_in : List ℕ → Option Keyword
keyword_in word =
    if bytes_eq word (codes "pdu") then Some keyword.Pdu
    else (if bytes_eq word (codes "request") then Some keyword.Request
    else (if bytes_eq word (codes "reply") then Some keyword.Reply
    else (if bytes_eq word (codes "feed") then Some keyword.Feed
    else (if bytes_eq word (codes "form") then Some keyword.Form
    else None))))

-- the bytes that a word spells: none by `-`, else each by two hexadecimal digits of either case
abbrev pub bytes_in : List ℕ → Option (List ℕ)
bytes_in word =
    if bytes_eq word (codes "-") then Some []
    else (if length word == 0 then None else result_ok (decode_of word))

-- no zero stands before another digit
abbrev pub begins_number : List ℕ → Bool
begins_number [] = false
begins_number (c ∷ []) = true
begins_number (c ∷ d ∷ ds) = not (c == 48)

-- 0 to 9
abbrev pub is_digit : ℕ → Bool
is_digit c = nat_le 48 c && nat_le c 57

-- the number that decimal digits spell behind such a one, which stays below 65,536
abbrev pub value_in : ℕ → List ℕ → Option ℕ
value_in value [] = Some value
value_in value (c ∷ cs) = if is_digit c && nat_lt (value * 10 + (c - 48)) 65536 then value_in (value * 10 + (c - 48)) cs else None

-- the number below 65,536 that a word spells in decimal
abbrev pub number_in : List ℕ → Option ℕ
number_in word = if begins_number word then value_in 0 word else None

-- the bytes that each of some words spells
abbrev pub all_bytes : List (List ℕ) → Option (List (List ℕ))
all_bytes [] = Some []
all_bytes (word ∷ words) = bytes_in word >>= λ bytes. all_bytes words >>= λ more. Some (bytes ∷ more)

-- the same of words that are parted by one space
abbrev pub pieces_in : List ℕ → Option (List (List ℕ))
pieces_in words = all_bytes (slice_split (λ b. b == 32) words)

-- the number of a method and the bytes of a stub, by two words
abbrev pub stub_in : List ℕ → Option (ℕ × List ℕ)
stub_in words = cut words >>= λ parts. number_in parts.0 >>= λ opnum. bytes_in parts.1 >>= λ stub. Some (opnum, stub)

-- ---- rows

-- what is asked by a keyword and the words behind it
abbrev pub row_with : Keyword → List ℕ → Option WireRow
row_with keyword.Pdu words = bytes_in words >>= λ bytes. Some (Pdu bytes)
row_with keyword.Request words = stub_in words >>= λ found. Some (Request found.0 found.1)
row_with keyword.Reply words = stub_in words >>= λ found. Some (Reply found.0 found.1)
row_with keyword.Feed words = pieces_in words >>= λ pieces. Some (Feed pieces)
row_with keyword.Form words = bytes_in words >>= λ bytes. Some (Form bytes)

-- what a row asks, or nothing
abbrev pub row_in : List ℕ → Option WireRow
row_in row = cut row >>= λ parts. keyword_in parts.0 >>= λ keyword. row_with keyword parts.1
