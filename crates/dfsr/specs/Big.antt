-- The script that a seed makes: three members, groups of lines as numbers draw them, and rounds in which all pull and drain.
use Rattle.std.specs.Prelude.{ℕ, zero, suc, ◌+◌, ◌*◌, ◌/◌, ◌%◌, ◌^◌, List, [], ◌∷◌, ◌++◌, codes, decimal}
use Rattle.frs_base.specs.declared.kind.MemberKind.TheVariants.{Primary, Plain}
use Rattle.script_lang.specs.declared.line.Line.{Line}
use Rattle.script_lang.specs.declared.line.Line.TheVariants.{Member, Remove, Consume, Change, Pull, Drain, Count}
use Rattle.dfsr.specs.declared.big.lines.Peer.{Peer}
use Rattle.dfsr.specs.declared.big.lines.Peer.TheVariants.{A, B, C}

-- ---- numbers

-- the number behind a number
abbrev pub next : ℕ → ℕ
next number = (6364136223846793005 * number + 1442695040888963407) % 2 ^ 64

-- what a number draws: its upper half
abbrev pub draw : ℕ → ℕ
draw number = number / 2 ^ 32

-- the number of the k-th group, from 1, behind the seed
abbrev pub number_at : ℕ → ℕ → ℕ
number_at seed zero = seed
number_at seed (suc k) = next (number_at seed k)

-- ---- members and files

-- how a member is named
abbrev pub name_of : Peer → List ℕ
name_of A = codes "a"
name_of B = codes "b"
name_of C = codes "c"

-- the next member round the circle
abbrev pub behind : Peer → Peer
behind A = B
behind B = C
behind C = A

-- the member of this place, from 0
abbrev pub peer_at : ℕ → Peer
peer_at zero = A
peer_at (suc zero) = B
peer_at (suc (suc k)) = C

-- the file of this number, beneath the root
abbrev pub path_of : ℕ → List (List ℕ)
path_of file = (codes "f" ++ decimal file) ∷ []

-- ---- groups

-- the lines of a group that does this to a member's file: changes it, removes it, or pulls from the next member
abbrev pub work : ℕ → Peer → ℕ → ℕ → List Line
work (suc (suc zero)) peer file k = Remove (name_of peer) (path_of file) ∷ Consume (name_of peer) k ∷ []
work (suc (suc (suc way))) peer file k = Pull (name_of peer) (name_of (behind peer)) ∷ []
work way peer file k = Change (name_of peer) (path_of file) k ∷ []

-- the k-th group, as drawn: one of 4 ways, of 97 files, of 3 members
abbrev pub group : ℕ → ℕ → List Line
group drawn k = work (drawn / 291 % 4) (peer_at (drawn % 3)) (drawn / 3 % 97) k

-- the first groups, so many
abbrev pub groups : ℕ → ℕ → List Line
groups seed zero = []
groups seed (suc k) = groups seed k ++ group (draw (number_at seed (suc k))) (suc k)

-- ---- the script

-- the members are made
abbrev pub opening : List Line
opening = Member (name_of A) Primary ∷ Member (name_of B) Plain ∷ Member (name_of C) Plain ∷ []

-- each pulls from each, and each drains
abbrev pub round : List Line
round = Pull (name_of A) (name_of B) ∷ Pull (name_of A) (name_of C) ∷ Pull (name_of B) (name_of A) ∷ Pull (name_of B) (name_of C)
    ∷ Pull (name_of C) (name_of A) ∷ Pull (name_of C) (name_of B) ∷ Drain (name_of A) ∷ Drain (name_of B) ∷ Drain (name_of C) ∷ []

-- so many such rounds
abbrev pub rounds : ℕ → List Line
rounds zero = []
rounds (suc k) = rounds k ++ round

-- all lines but the last three
abbrev pub big_lines : ℕ → ℕ → List Line
big_lines seed count = opening ++ groups seed count ++ rounds 3

-- the last three, whose text alone is written
abbrev pub counts : List Line
counts = Count (name_of A) ∷ Count (name_of B) ∷ Count (name_of C) ∷ []
