-- Which words spell a line.
use Rattle.std.specs.Prelude.{◌≡◌, ◌≢◌, ◌<◌, ◌^◌, ℕ, Bool, true, not, ◌==◌, ◌&&◌, nat_le, nat_lt, List, [], ◌∷◌, All, IsUtf8, codes, decimal, length}
use Rattle.std.specs.List.{join_with_byte, list_all}
use Rattle.frs_base.specs.declared.kind.MemberKind.{MemberKind}
use Rattle.frs_base.specs.declared.kind.MemberKind.TheVariants.{Primary, Plain}
use Rattle.script_lang.specs.declared.line.Line.{Line}
use Rattle.script_lang.specs.declared.line.Line.TheVariants.{Member, Put, Fill, Mkdir, Move, Remove, Consume, Change, Pull, Install, Drain, Show, Tree, Sums, Count}

-- ---- values in form

-- a to z
abbrev pub is_small_letter : ℕ → Bool
is_small_letter c = nat_le 97 c && nat_le c 122

-- a member's name has 1 to 8 letters a to z
abbrev pub is_member_name : List ℕ → Bool
is_member_name name = nat_lt 0 (length name) && (nat_le (length name) 8 && list_all is_small_letter name)

-- 0x21 to 0x7E, but for `/` and `\`
abbrev pub is_path_byte : ℕ → Bool
is_path_byte c = nat_le 0x21 c && (nat_le c 0x7e && (not (c == 0x2f) && not (c == 0x5c)))

-- a component of a path has 1 to 255 such characters
abbrev pub is_component : List ℕ → Bool
is_component part = nat_lt 0 (length part) && (nat_le (length part) 255 && list_all is_path_byte part)

-- a path has 1 to 64 components
abbrev pub is_path : List (List ℕ) → Bool
is_path path = nat_lt 0 (length path) && (nat_le (length path) 64 && list_all is_component path)

-- moments are below this
abbrev pub moment_limit : ℕ
moment_limit = 2 ^ 61

-- lengths are below this
abbrev pub length_limit : ℕ
length_limit = 2 ^ 32

-- no byte is a line feed
abbrev pub HasNoLineFeed : List ℕ → Type 0
HasNoLineFeed bytes = All (λ b. b ≢ 10) bytes

-- UTF-8 within one row
pub record IsText (bytes : List ℕ) : Type 0 where
  pub utf8 : IsUtf8 bytes
  pub one_row : HasNoLineFeed bytes

-- ---- lines

-- how a kind of member is spelled
abbrev pub kind_word : MemberKind → List ℕ
kind_word Primary = codes "primary"
kind_word Plain = codes "plain"

-- how a path is spelled: its components, with `/` between
abbrev pub path_word : List (List ℕ) → List ℕ
path_word path = join_with_byte 47 path

-- the words of a line; the last of a `put` is its text, which may hold spaces and be empty
abbrev pub words : Line → List (List ℕ)
words (Member name kind) = codes "member" ∷ name ∷ kind_word kind ∷ []
words (Put name path text) = codes "put" ∷ name ∷ path_word path ∷ text ∷ []
words (Fill name path bytes) = codes "fill" ∷ name ∷ path_word path ∷ decimal bytes ∷ []
words (Mkdir name path) = codes "mkdir" ∷ name ∷ path_word path ∷ []
words (Move name from to) = codes "move" ∷ name ∷ path_word from ∷ path_word to ∷ []
words (Remove name path) = codes "remove" ∷ name ∷ path_word path ∷ []
words (Consume name moment) = codes "consume" ∷ name ∷ decimal moment ∷ []
words (Change name path moment) = codes "change" ∷ name ∷ path_word path ∷ decimal moment ∷ []
words (Pull name other) = codes "pull" ∷ name ∷ other ∷ []
words (Install name) = codes "install" ∷ name ∷ []
words (Drain name) = codes "drain" ∷ name ∷ []
words (Show name) = codes "show" ∷ name ∷ []
words (Tree name) = codes "tree" ∷ name ∷ []
words (Sums name) = codes "sums" ∷ name ∷ []
words (Count name) = codes "count" ∷ name ∷ []

-- what a line spells: its words, parted by one space
abbrev pub spelling : Line → List ℕ
spelling line = join_with_byte 32 (words line)

-- the values of a line are in form
abbrev pub IsLine : Line → Type 0
IsLine (Member name kind) = is_member_name name ≡ true
IsLine (Put name path text) = (is_member_name name ≡ true) × (is_path path ≡ true) × IsText text
IsLine (Fill name path bytes) = (is_member_name name ≡ true) × (is_path path ≡ true) × (bytes < length_limit)
IsLine (Mkdir name path) = (is_member_name name ≡ true) × (is_path path ≡ true)
IsLine (Move name from to) = (is_member_name name ≡ true) × (is_path from ≡ true) × (is_path to ≡ true)
IsLine (Remove name path) = (is_member_name name ≡ true) × (is_path path ≡ true)
IsLine (Consume name moment) = (is_member_name name ≡ true) × (moment < moment_limit)
IsLine (Change name path moment) = (is_member_name name ≡ true) × (is_path path ≡ true) × (moment < moment_limit)
IsLine (Pull name other) = (is_member_name name ≡ true) × (is_member_name other ≡ true)
IsLine (Install name) = is_member_name name ≡ true
IsLine (Drain name) = is_member_name name ≡ true
IsLine (Show name) = is_member_name name ≡ true
IsLine (Tree name) = is_member_name name ≡ true
IsLine (Sums name) = is_member_name name ≡ true
IsLine (Count name) = is_member_name name ≡ true
