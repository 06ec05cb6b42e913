-- The text of a script: what its lines do to the world, and what they print.
use Rattle.std.specs.Prelude.{◌≡◌, ℕ, ◌%◌, zero, suc, List, [], ◌∷◌, ◌++◌, MatchOption, MatchResult, Option, Some, None, Result, Ok, Err, codes, count_by, decimal, flat_map, length}
use Rattle.version_vector.specs.declared.interval.Interval.{Interval}
use Rattle.win_order.specs.declared.update.Update.{Update}
use Rattle.vol_state.specs.declared.command.VolCmd.{VolCmd}
use Rattle.vol_state.specs.declared.operation.LocalOp.{LocalOp}
use Rattle.vol_state.specs.declared.operation.LocalOp.TheVariants as op
use Rattle.vol_state.specs.declared.operation.Refused.{Refused}
use Rattle.vol_state.specs.Ways.{Resolves}
use Rattle.record_db.specs.Lists.{Lists}
use Rattle.script_lang.specs.declared.line.Line.{Line}
use Rattle.script_lang.specs.declared.line.Line.TheVariants as lines
use Rattle.world_model.specs.World.{World, IsRecordOf}
use Rattle.world_model.specs.Events.{Step, Local as LocalEvent}
use Rattle.name_rules.specs.declared.step.Step.{Step as InstallStep}
use Rattle.script_engine.specs.Printed.{own_word, printed, record_words, step_words, vector_words}
use Rattle.script_engine.specs.declared.names.MemberName.{MemberName}
use Rattle.script_engine.specs.declared.consumed.Consumed.{Consumed}
use Rattle.script_engine.specs.declared.consumed.Consumed.TheVariants.{Made, Skipped}
use Rattle.script_engine.specs.declared.refusal.Refusal.{Refusal}
use Rattle.script_engine.specs.declared.refusal.Refusal.TheVariants.{Local}
use Rattle.script_engine.specs.Scene.{Scene, IsNamed, fresh_scene, in_world, members_of, with_name, without_name}
use Rattle.script_engine.specs.Refusals.{first_refusal, refused_text}
use Rattle.script_engine.specs.Widening.{IsVectorOf}
use Rattle.script_engine.specs.Consuming.{ConsumesAll, ConsumesNext}
use Rattle.script_engine.specs.Installing.{Drains, Installs}
use Rattle.script_engine.specs.Pulling.{Pulls}
use Rattle.script_engine.specs.Trees.{IsTreeOf, Row, files_in, files_of, sums_text, tree_text}

-- ---- what is printed

-- the line of a vector
abbrev pub vector_text : List MemberName → List Interval → List ℕ
vector_text names vector = printed (codes "vector" ∷ vector_words names vector)

-- the lines of records
abbrev pub records_text : List MemberName → List Update → List ℕ
records_text names records = flat_map (λ u. printed (record_words names u)) records

-- what a local operation prints
abbrev pub usn_text : ℕ → List ℕ
usn_text usn = printed (codes "usn" ∷ decimal usn ∷ [])

-- what a consumed record prints
abbrev pub consumed_text : List ℕ → Consumed → List ℕ
consumed_text name (Made usn) = printed (codes "update" ∷ own_word name usn ∷ [])
consumed_text name (Skipped usn) = printed (codes "skip" ∷ own_word name usn ∷ [])

-- what the last of consumed records prints, or that nothing was left
abbrev pub last_text : List ℕ → List Consumed → List ℕ
last_text name [] = printed (codes "nothing" ∷ [])
last_text name (c ∷ []) = consumed_text name c
last_text name (c ∷ more ∷ rest) = last_text name (more ∷ rest)

-- a refusal prints why; else this is printed
abbrev pub text_unless : Option Refusal → List ℕ → List ℕ
text_unless None text = text
text_unless (Some why) text = refused_text why

-- what `count` prints: the records, those present, the files of the tree, the intervals
abbrev pub count_text : List Update → List Row → List Interval → List ℕ
count_text records rows vector = printed (codes "records" ∷ decimal (length records) ∷ codes "live" ∷ decimal (count_by (λ u. u.present) records)
    ∷ codes "files" ∷ decimal (files_in rows) ∷ codes "intervals" ∷ decimal (length vector) ∷ [])

-- what a step of the installer prints, or that none is left, or why it is refused
abbrev pub installed_text : List MemberName → List ℕ → Result (Option InstallStep) Refusal → List ℕ
installed_text names own (Ok None) = printed (codes "drained" ∷ [])
installed_text names own (Ok (Some step)) = printed (step_words names own step)
installed_text names own (Err why) = refused_text why

-- contents of a pattern: byte i is i mod 251
abbrev pub filled : ℕ → List ℕ
filled zero = []
filled (suc n) = filled n ++ (n % 251) ∷ []

-- ---- what a line does

-- what is refused prints why, and changes nothing
abbrev pub IsRefused : Scene → Refusal → List ℕ → Scene → Type 0
IsRefused s why text new = (text ≡ refused_text why) × (new ≡ s)

-- a local operation: its command is done and its USN printed, or its first refusal
abbrev pub Operates : Scene → ℕ → LocalOp → List ℕ → Scene → Type 0
Operates s d operation text new = (answer : Result VolCmd Refused) × Resolves (s.world.at d).volume operation answer
    × MatchResult answer (λ cmd. (w : World) × Step s.world d (LocalEvent cmd) w × (text ≡ usn_text (s.world.at d).volume.next_usn) × (new ≡ in_world s w))
    (λ why. IsRefused s (Local why) text new)

-- the next record is consumed, or is refused, or there is none
abbrev pub Consumes : Scene → List ℕ → ℕ → ℕ → List ℕ → Scene → Type 0
Consumes s name d moment text new = (done : List Consumed) × (why : Option Refusal) × (w : World) × ConsumesNext s.world d moment done why w
    × (text ≡ text_unless why (last_text name done)) × (new ≡ in_world s w)

-- empty contents are put, and all that is left of the journal is consumed
abbrev pub Changes : Scene → List ℕ → ℕ → LocalOp → ℕ → List ℕ → Scene → Type 0
Changes s name d operation moment text new = (answer : Result VolCmd Refused) × Resolves (s.world.at d).volume operation answer
    × MatchResult answer
    (λ cmd. (put : World) × (w : World) × (done : List Consumed) × (why : Option Refusal) × Step s.world d (LocalEvent cmd) put × ConsumesAll put d moment done why w
    × (text ≡ text_unless why (last_text name done)) × (new ≡ in_world s w))
    (λ why. IsRefused s (Local why) text new)

-- the next step of the installer is done, or none is left, or it is refused
abbrev pub InstallsNext : Scene → List ℕ → ℕ → List ℕ → Scene → Type 0
InstallsNext s name d text new = (outcome : Result (Option InstallStep) Refusal) × (w : World) × Installs s d outcome w
    × (text ≡ installed_text (members_of s) name outcome) × (new ≡ in_world s w)

-- so are all that are left
abbrev pub DrainsAll : Scene → ℕ → List ℕ → Scene → Type 0
DrainsAll s d text new = (steps : List InstallStep) × (why : Option Refusal) × (w : World) × Drains s d steps why w
    × (text ≡ text_unless why (printed (codes "drained" ∷ decimal (length steps) ∷ []))) × (new ≡ in_world s w)

-- ---- what a line prints of a member

-- the vector of K, and Winners(Covered(All, K)) by UID
abbrev pub Shows : Scene → ℕ → List ℕ → Type 0
Shows s d text = (vector : List Interval) × (records : List Update) × IsVectorOf (s.world.at d).known vector × Lists (IsRecordOf s.world d) records
    × (text ≡ vector_text (members_of s) vector ++ records_text (members_of s) records)

-- what is reached from the root of its volume
abbrev pub PrintsTree : Scene → ℕ → List ℕ → Type 0
PrintsTree s d text = (rows : List Row) × IsTreeOf (s.world.at d).volume rows × (text ≡ tree_text rows)

-- the sums of the files that are reached
abbrev pub PrintsSums : Scene → ℕ → List ℕ → Type 0
PrintsSums s d text = (rows : List Row) × IsTreeOf (s.world.at d).volume rows × (text ≡ sums_text (files_of rows))

-- how much it has
abbrev pub Counts : Scene → ℕ → List ℕ → Type 0
Counts s d text = (vector : List Interval) × (records : List Update) × (rows : List Row) × IsVectorOf (s.world.at d).known vector × Lists (IsRecordOf s.world d) records
    × IsTreeOf (s.world.at d).volume rows × (text ≡ count_text records rows vector)

-- ---- lines

-- a line that isn't refused by names prints this text and leaves this scene
abbrev pub Acts : Scene → Line → List ℕ → Scene → Type 0
Acts s (lines.Member name kind) text new = (text ≡ printed (codes "ok" ∷ [])) × (new ≡ with_name s name kind)
Acts s (lines.Put name path bytes) text new = (d : ℕ) × IsNamed s name d × Operates s d (op.Put path bytes) text new
Acts s (lines.Fill name path count) text new = (d : ℕ) × IsNamed s name d × Operates s d (op.Put path (filled count)) text new
Acts s (lines.Mkdir name path) text new = (d : ℕ) × IsNamed s name d × Operates s d (op.Mkdir path) text new
Acts s (lines.Move name from to) text new = (d : ℕ) × IsNamed s name d × Operates s d (op.Move from to) text new
Acts s (lines.Remove name path) text new = (d : ℕ) × IsNamed s name d × Operates s d (op.Remove path) text new
Acts s (lines.Consume name moment) text new = (d : ℕ) × IsNamed s name d × Consumes s name d moment text new
Acts s (lines.Change name path moment) text new = (d : ℕ) × IsNamed s name d × Changes s name d (op.Put path []) moment text new
Acts s (lines.Pull name other) text new =
    (puller : ℕ) × (server : ℕ) × (taken : ℕ) × (why : Option Refusal) × IsNamed s name puller × IsNamed s other server
    × Pulls s puller server taken why new × (text ≡ text_unless why (printed (codes "pulled" ∷ decimal taken ∷ [])))
Acts s (lines.Install name) text new = (d : ℕ) × IsNamed s name d × InstallsNext s name d text new
Acts s (lines.Drain name) text new = (d : ℕ) × IsNamed s name d × DrainsAll s d text new
Acts s (lines.Show name) text new = (d : ℕ) × IsNamed s name d × Shows s d text × (new ≡ s)
Acts s (lines.Tree name) text new = (d : ℕ) × IsNamed s name d × PrintsTree s d text × (new ≡ s)
Acts s (lines.Sums name) text new = (d : ℕ) × IsNamed s name d × PrintsSums s d text × (new ≡ s)
Acts s (lines.Count name) text new = (d : ℕ) × IsNamed s name d × Counts s d text × (new ≡ s)

-- what a refused line leaves: everything as it was, but that a `member` line took its number
abbrev pub left_by : Scene → Line → Scene
left_by s (lines.Member name kind) = without_name s
left_by s (lines.Put name path bytes) = s
left_by s (lines.Fill name path count) = s
left_by s (lines.Mkdir name path) = s
left_by s (lines.Move name from to) = s
left_by s (lines.Remove name path) = s
left_by s (lines.Consume name moment) = s
left_by s (lines.Change name path moment) = s
left_by s (lines.Pull name other) = s
left_by s (lines.Install name) = s
left_by s (lines.Drain name) = s
left_by s (lines.Show name) = s
left_by s (lines.Tree name) = s
left_by s (lines.Sums name) = s
left_by s (lines.Count name) = s

-- a line prints its first refusal and leaves what a refused line leaves, or acts
abbrev pub Does : Scene → Line → List ℕ → Scene → Type 0
Does s line text new = MatchOption (first_refusal s line) (Acts s line text new) (λ why. (text ≡ refused_text why) × (new ≡ left_by s line))

-- ---- runs

-- the lines, one after the other, print this text and lead to this scene
abbrev pub Run : Scene → List Line → List ℕ → Scene → Type 0
Run s [] text new = (text ≡ []) × (new ≡ s)
Run s (line ∷ rest) text new =
    (first : List ℕ) × (mid : Scene) × (more : List ℕ) × Does s line first mid × Run mid rest more new × (text ≡ first ++ more)

-- the text of these lines
abbrev pub Prints : List Line → List ℕ → Type 0
Prints script text = (new : Scene) × Run fresh_scene script text new
