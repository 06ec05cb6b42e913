-- How the words of a row are read.
use Rattle.std.specs.Prelude.{◌≡◌, ◌≢◌, ℕ, Bool, true, false, ◌==◌, ◌&&◌, nat_le, nat_lt, List, [], ◌∷◌, IsUtf8, Option, Some, None, Result, Ok, Err, bytes_eq, codes, decimal, if◌then◌else◌}
use Rattle.std.specs.List.{slice_split}
use Rattle.std.specs.Str.Parse.{digits_value}
use Rattle.frs_base.specs.declared.kind.MemberKind.{MemberKind}
use Rattle.frs_base.specs.declared.kind.MemberKind.TheVariants.{Primary, Plain}
use Rattle.script_lang.specs.declared.errors.RowError.{RowError}
use Rattle.script_lang.specs.declared.errors.RowError.TheVariants.{Bad, Memory}
use Rattle.script_lang.specs.declared.line.Line.{Line}
use Rattle.script_lang.specs.declared.line.Line.TheVariants.{Member, Put, Fill, Mkdir, Move, Remove, Consume, Change, Pull, Install, Drain, Show, Tree, Sums, Count}
use Rattle.script_lang.specs.declared.words.Keyword.{Keyword}
use Rattle.script_lang.specs.declared.words.Keyword.TheVariants as keyword
use Rattle.script_lang.specs.Grammar.{IsLine, is_member_name, is_path, length_limit, moment_limit, spelling}
use Rattle.script_lang.specs.Script.{IsBadRow, says_something}

-- ---- what a call answers

-- it gives what reading gives, unless memory ran out
abbrev pub Reads : {T : Type 0} → Result T RowError → Option T → Type 0
Reads (Ok value) read = read ≡ Some value
Reads (Err Bad) read = read ≡ None
Reads (Err Memory) read = Unit {0}

-- it gives the line that the row spells, unless memory ran out
abbrev pub Spells : Result Line RowError → List ℕ → Type 0
Spells (Ok line) row = IsLine line × (row ≡ spelling line)
Spells (Err Bad) row = (line : Line) → IsLine line → row ≢ spelling line
Spells (Err Memory) row = Unit {0}

-- it gives the line of a row, or none where the row says nothing, unless memory ran out
abbrev pub Judges : Result (Option Line) RowError → List ℕ → Type 0
Judges (Ok None) row = IsUtf8 row × (says_something row ≡ false)
Judges (Ok (Some line)) row = IsUtf8 row × (says_something row ≡ true) × IsLine line × (row ≡ spelling line)
Judges (Err Bad) row = IsBadRow row
Judges (Err Memory) row = Unit {0}

-- ---- words

infixl 10 ◌>>=◌
abbrev pub ◌>>=◌ : {A B : Type 0} → Option A → (A → Option B) → Option B
None >>= f = None
(Some x) >>= f = f x

-- the keyword that a word is
abbrev pub keyword_in : List ℕ → Option Keyword
keyword_in word =
    if bytes_eq word (codes "member") then Some keyword.Member
    else (if bytes_eq word (codes "put") then Some keyword.Put
    else (if bytes_eq word (codes "fill") then Some keyword.Fill
    else (if bytes_eq word (codes "mkdir") then Some keyword.Mkdir
    else (if bytes_eq word (codes "move") then Some keyword.Move
    else (if bytes_eq word (codes "remove") then Some keyword.Remove
    else (if bytes_eq word (codes "consume") then Some keyword.Consume
    else (if bytes_eq word (codes "change") then Some keyword.Change
    else (if bytes_eq word (codes "pull") then Some keyword.Pull
    else (if bytes_eq word (codes "install") then Some keyword.Install
    else (if bytes_eq word (codes "drain") then Some keyword.Drain
    else (if bytes_eq word (codes "show") then Some keyword.Show
    else (if bytes_eq word (codes "tree") then Some keyword.Tree
    else (if bytes_eq word (codes "sums") then Some keyword.Sums
    else (if bytes_eq word (codes "count") then Some keyword.Count
    else None))))))))))))))

-- the kind of member that a word spells
abbrev pub kind_in : List ℕ → Option MemberKind
kind_in word = if bytes_eq word (codes "primary") then Some Primary else (if bytes_eq word (codes "plain") then Some Plain else None)

-- the member's name that a word is
abbrev pub name_in : List ℕ → Option (List ℕ)
name_in word = if is_member_name word then Some word else None

-- the path that a word spells
abbrev pub path_in : List ℕ → Option (List (List ℕ))
path_in word = if is_path (slice_split (λ b. b == 47) word) then Some (slice_split (λ b. b == 47) word) else None

-- no sign, and no zero before another digit
abbrev pub begins_number : List ℕ → Bool
begins_number [] = false
begins_number (c ∷ []) = nat_le 48 c && nat_le c 57
begins_number (c ∷ d ∷ ds) = nat_le 49 c && nat_le c 57

-- the number below a limit whose decimal text a word is
abbrev pub number_in : ℕ → List ℕ → Option ℕ
number_in limit word =
    if bytes_eq (decimal (digits_value 10 word)) word && nat_lt (digits_value 10 word) limit then Some (digits_value 10 word) else None

-- ---- lines

-- the line of two words
abbrev pub two_words : Keyword → List ℕ → Option Line
two_words keyword.Install name = Some (Install name)
two_words keyword.Drain name = Some (Drain name)
two_words keyword.Show name = Some (Show name)
two_words keyword.Tree name = Some (Tree name)
two_words keyword.Sums name = Some (Sums name)
two_words keyword.Count name = Some (Count name)
two_words _ name = None

abbrev pub line_of_two : Keyword → List ℕ → Option Line
line_of_two word name = name_in name >>= two_words word

-- the line of three words
abbrev pub three_words : Keyword → List ℕ → List ℕ → Option Line
three_words keyword.Member third name = kind_in third >>= λ kind. Some (Member name kind)
three_words keyword.Mkdir third name = path_in third >>= λ path. Some (Mkdir name path)
three_words keyword.Remove third name = path_in third >>= λ path. Some (Remove name path)
three_words keyword.Consume third name = number_in moment_limit third >>= λ moment. Some (Consume name moment)
three_words keyword.Pull third name = name_in third >>= λ other. Some (Pull name other)
three_words _ third name = None

abbrev pub line_of_three : Keyword → List ℕ → List ℕ → Option Line
line_of_three word name third = name_in name >>= three_words word third

-- the line of four words, the last of which is all the rest of its row
abbrev pub four_words : Keyword → List ℕ → List ℕ → List (List ℕ) → Option Line
four_words keyword.Put rest name path = Some (Put name path rest)
four_words keyword.Fill rest name path = number_in length_limit rest >>= λ bytes. Some (Fill name path bytes)
four_words keyword.Move rest name path = path_in rest >>= λ to. Some (Move name path to)
four_words keyword.Change rest name path = number_in moment_limit rest >>= λ moment. Some (Change name path moment)
four_words _ rest name path = None

abbrev pub line_of_four : Keyword → List ℕ → List ℕ → List ℕ → Option Line
line_of_four word name third rest = name_in name >>= λ own. path_in third >>= four_words word rest own
