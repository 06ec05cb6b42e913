-- What lines at a member print and leave.
use Rattle.std.proofs.Common.{◌≡◌, ◌<◌, ◌+◌, ◌++◌, ℕ, zero, suc, cond, not, ltb, List, [], ◌∷◌, length, refl, sym, ap, ◌∙◌, subst, arith, inl, Option, Some, None, Result, Ok, Err, IfOk, String, bytes_eq, MatchOption}
use Rattle.std.specs.Prelude.{codes, decimal, is_some, option_to_list, position, slice_get, string_bytes}
use Rattle.std.specs.List.{position_or_len}
use Rattle.std.specs.declared.alloc.Global.{Global}
use Rattle.std.proofs.lemmas.List.{length-append, length-map}
use Rattle.std.proofs.lemmas.List.Quantifiers.{position-Some}
use Rattle.frs_base.specs.Identifiers.{database_of}
use Rattle.vol_state.specs.declared.operation.LocalOp.{LocalOp}
use Rattle.vol_state.specs.declared.operation.LocalOp.TheVariants.{Put}
use Rattle.vol_state.specs.declared.operation.Refused.{Refused}
use Rattle.vol_state.specs.declared.operation.Refused.TheVariants.{TooLarge}
use Rattle.win_order.specs.declared.update.Update.{Update}
use Rattle.vol_state.specs.Maps.{maps_of}
use Rattle.world_model.specs.World.{Member, World}
use Rattle.folder_core.specs.Machine.{Machine}
use Rattle.folder_core.specs.Replay.{Seen}
use Rattle.script_lang.specs.declared.line.Line.{Line}
use Rattle.script_engine.specs.declared.consumed.Consumed.{Consumed}
use Rattle.script_engine.specs.declared.engine.Engine.{Engine}
use Rattle.script_engine.specs.declared.names.MemberName.{MemberName}
use Rattle.script_engine.specs.declared.refusal.Refusal.{Refusal}
use Rattle.script_engine.specs.declared.refusal.Refusal.TheVariants.{Exists, Itself, Local, NotYet, Unknown, VectorFull}
use Rattle.script_engine.specs.Engines.{AtNamed, ConsumedAll, ConsumedNext, DrainedBy, Operated, Stands}
use Rattle.script_engine.specs.Installing.{Drains, Installs}
use Rattle.script_engine.specs.Named.{HasName}
use Rattle.script_engine.specs.Printed.{printed}
use Rattle.name_rules.specs.declared.step.Step.{Step as InstallStep}
use Rattle.script_engine.specs.Refusals.{first_refusal, refused_text, unless_named}
use Rattle.script_engine.specs.Scene.{IsNamed, Scene, in_world, members_of, numbered, place_of}
use Rattle.script_engine.specs.Standing.{MachineStands}
use Rattle.script_engine.specs.Text.{Acts, Changes, Consumes, Counts, Does, DrainsAll, IsRefused, Operates, PrintsSums, PrintsTree, Shows, count_text, filled, installed_text, last_text, left_by, records_text, usn_text, vector_text}
use Rattle.script_engine.specs.Trees.{IsTreeOf, Row, files_of, sums_text, tree_text}
use Rattle.script_engine.specs.Widening.{IsVectorOf}
use Rattle.script_engine.proofs.Consumption.{maps_are}
use Rattle.script_engine.proofs.Pairs.{get_map}
use Rattle.script_engine.proofs.Exhausting.{last_is}
use Rattle.script_engine.proofs.Texts.{said_of}

-- ---- names

numbered_first : (name : List ℕ) (k : ℕ) (names : List (List ℕ)) → (position_or_len (λ m. bytes_eq m.name name) (numbered k names) ≡ position_or_len (λ n. bytes_eq n name) names) × (length (numbered k names) ≡ length names)
numbered_first name k [] = (refl, refl)
numbered_first name k (n ∷ names) = let (at, len) = numbered_first name (k + 1) names in (ap (λ x. cond (not (bytes_eq n name)) (1 + x) 0) at, ap suc len)

-- the place of a name among the engine's
abbrev pub place_held : Engine → List ℕ → Option ℕ
place_held e name = position (λ m. bytes_eq m.name name) e.names.items

pub place_is : (e : Engine) (s : Scene) (name : List ℕ) → Stands e s → place_held e name ≡ place_of s.names name
place_is e s name h =
    let (at, len) = numbered_first name 1 s.names in
    ap (position (λ m. bytes_eq m.name name)) h.names ∙ (λ i. cond (ltb (at i) (len i)) (Some (at i)) None)

-- a place of a name is one of a folder
pub within_held : (e : Engine) (s : Scene) (name : List ℕ) (at : ℕ) → Stands e s → place_held e name ≡ Some at → at < length e.folders.items
within_held e s name at h found =
    let within = (position-Some (λ n. bytes_eq n name) s.names at name (sym (place_is e s name h) ∙ found)).0 in
    let many = h.machines.many in
    let same = length-map e.folders.items (λ (f : Seen). f.machine) in
    omega (arith, within, many, same)

-- ---- with and without a member

at_none : (s : Scene) (name : List ℕ) (C : ℕ → List ℕ → Scene → Type 0) → place_of s.names name ≡ None → AtNamed s name C (refused_text (Unknown name)) s
at_none s name C e = subst (λ p. MatchOption p (IsRefused s (Unknown name) (refused_text (Unknown name)) s) (λ k. C (database_of (k + 1)) (refused_text (Unknown name)) s)) (sym e) (refl, refl)

at_some : (s : Scene) (name : List ℕ) (C : ℕ → List ℕ → Scene → Type 0) (at : ℕ) (text : List ℕ) (new : Scene) → place_of s.names name ≡ Some at → C (database_of (at + 1)) text new → AtNamed s name C text new
at_some s name C at text new e c = subst (λ p. MatchOption p (IsRefused s (Unknown name) text new) (λ k. C (database_of (k + 1)) text new)) (sym e) c

-- a line without its member
pub unknown_said : {E : Type 0} (e : Engine) (s : Scene) (name : List ℕ) (C : ℕ → List ℕ → Scene → Type 0) (r : Result (String Global) E) → Stands e s → place_held e name ≡ None
    → IfOk r (λ text. string_bytes text ≡ refused_text (Unknown name)) → IfOk r (λ text. (new : Scene) × AtNamed s name C (string_bytes text) new × Stands e new)
unknown_said e s name C r h none said =
    said_of r (refused_text (Unknown name)) (λ t. (new : Scene) × AtNamed s name C t new × Stands e new) said (s, at_none s name C (sym (place_is e s name h) ∙ none), h)

-- a line with it
pub known_said : {E : Type 0} (e : Engine) (s : Scene) (name : List ℕ) (C : ℕ → List ℕ → Scene → Type 0) (r : Result (String Global) E) (at : ℕ) (text : List ℕ) (new : Scene) (after : Engine) → Stands e s → place_held e name ≡ Some at
    → IfOk r (λ made. string_bytes made ≡ text) → C (database_of (at + 1)) text new → Stands after new → IfOk r (λ made. (new : Scene) × AtNamed s name C (string_bytes made) new × Stands after new)
known_said e s name C r at text new after h some said comes stands =
    said_of r text (λ t. (new : Scene) × AtNamed s name C t new × Stands after new) said (new, at_some s name C at text new (sym (place_is e s name h) ∙ some) comes, stands)

-- the same of a line that only prints
pub unknown_printed : {E : Type 0} (e : Engine) (s : Scene) (name : List ℕ) (C : ℕ → List ℕ → Scene → Type 0) (r : Result (String Global) E) → Stands e s → place_held e name ≡ None
    → IfOk r (λ text. string_bytes text ≡ refused_text (Unknown name)) → IfOk r (λ text. AtNamed s name C (string_bytes text) s)
unknown_printed e s name C r h none said = said_of r (refused_text (Unknown name)) (λ t. AtNamed s name C t s) said (at_none s name C (sym (place_is e s name h) ∙ none))

pub known_printed : {E : Type 0} (e : Engine) (s : Scene) (name : List ℕ) (C : ℕ → List ℕ → Scene → Type 0) (r : Result (String Global) E) (at : ℕ) → Stands e s → place_held e name ≡ Some at
    → IfOk r (λ made. C (database_of (at + 1)) (string_bytes made) s) → IfOk r (λ made. AtNamed s name C (string_bytes made) s)
known_printed e s name C (Ok text) at h some said = at_some s name C at (string_bytes text) s (sym (place_is e s name h) ∙ some) said
known_printed e s name C (Err why) at h some said = tt

-- what is refused or comes of a line is what it does
pub does_at : (s : Scene) (line : Line) (name : List ℕ) (C : ℕ → List ℕ → Scene → Type 0) (text : List ℕ) (new : Scene) → first_refusal s line ≡ unless_named s name → left_by s line ≡ s
    → ((d : ℕ) → IsNamed s name d → C d text new → Acts s line text new) → AtNamed s name C text new → Does s line text new
does_at s line name C text new first left acts comes = by (place_of s.names name) refl comes
  where
    by : (place : Option ℕ) → place_of s.names name ≡ place → MatchOption place (IsRefused s (Unknown name) text new) (λ k. C (database_of (k + 1)) text new) → Does s line text new
    by None e (said, same) =
        let why : first_refusal s line ≡ Some (Unknown name) = first ∙ ap (λ p. cond (is_some p) None (Some (Unknown name))) e in
        subst (λ f. MatchOption f (Acts s line text new) (λ w. IsRefused (left_by s line) w text new)) (sym why) (said, same ∙ sym left)
    by (Some k) e c =
        let why : first_refusal s line ≡ None = first ∙ ap (λ p. cond (is_some p) None (Some (Unknown name))) e in
        subst (λ f. MatchOption f (Acts s line text new) (λ w. IsRefused (left_by s line) w text new)) (sym why) (acts (database_of (k + 1)) (k, e, refl) c)

-- ---- local operations

pub operation_done : (s : Scene) (d : ℕ) (operation : LocalOp) (usn : ℕ) (w : World) → Operated s.world d operation (Ok usn) w → Operates s d operation (usn_text usn) (in_world s w)
operation_done s d operation usn w (cmd, resolves, step, is) = (Ok cmd, resolves, (w, step, ap usn_text is, refl))

pub operation_refused : (s : Scene) (d : ℕ) (operation : LocalOp) (why : Refused) (w : World) → Operated s.world d operation (Err why) w → Operates s d operation (refused_text (Local why)) (in_world s w)
operation_refused s d operation why w (resolves, same) = (Err why, resolves, (refl, ap (in_world s) same))

-- so many bytes
filled_length : (count : ℕ) → length (filled count) ≡ count
filled_length zero = refl
filled_length (suc n) = length-append (filled n) _ ∙ (let h = filled_length n in omega (arith, h))

pub fill_refused : (s : Scene) (d : ℕ) (path : List (List ℕ)) (count : ℕ) → 1048576 < count → Operates s d (Put path (filled count)) (refused_text (Local (TooLarge count))) s
fill_refused s d path count large =
    let many = filled_length count in
    (Err (TooLarge count), inl (omega (arith, large, many), ap (λ n. Err (TooLarge n)) (sym many)), (refl, refl))

-- ---- the journal

pub consumed_done : (s : Scene) (name : List ℕ) (d moment : ℕ) (c : Option Consumed) (w : World) → ConsumedNext s.world d moment (Ok c) w → Consumes s name d moment (last_text name (option_to_list c)) (in_world s w)
consumed_done s name d moment c w next = (option_to_list c, None, w, next, refl, refl)

pub consumed_refused : (s : Scene) (name : List ℕ) (d moment : ℕ) (why : Refusal) (w : World) → ConsumedNext s.world d moment (Err why) w → Consumes s name d moment (refused_text why) (in_world s w)
consumed_refused s name d moment why w next = ([], Some why, w, next, refl, refl)

pub change_done : (s : Scene) (name : List ℕ) (d : ℕ) (operation : LocalOp) (moment usn : ℕ) (last : Option Consumed) (put w : World) → Operated s.world d operation (Ok usn) put → ConsumedAll put d moment (Ok last) w
    → Changes s name d operation moment (last_text name (option_to_list last)) (in_world s w)
change_done s name d operation moment usn last put w (cmd, resolves, step, is) (done, all, same) =
    (Ok cmd, resolves, (put, w, done, None, step, all, ap (λ l. last_text name (option_to_list l)) (sym same) ∙ sym (last_is name done), refl))

pub change_cut : (s : Scene) (name : List ℕ) (d : ℕ) (operation : LocalOp) (moment usn : ℕ) (why : Refusal) (put w : World) → Operated s.world d operation (Ok usn) put → ConsumedAll put d moment (Err why) w
    → Changes s name d operation moment (refused_text why) (in_world s w)
change_cut s name d operation moment usn why put w (cmd, resolves, step, is) (done, all) = (Ok cmd, resolves, (put, w, done, Some why, step, all, refl, refl))

pub change_refused : (s : Scene) (name : List ℕ) (d : ℕ) (operation : LocalOp) (moment : ℕ) (why : Refused) (w : World) → Operated s.world d operation (Err why) w
    → Changes s name d operation moment (refused_text (Local why)) (in_world s w)
change_refused s name d operation moment why w (resolves, same) = (Err why, resolves, (refl, ap (in_world s) same))

-- ---- the installer

-- a refusal of a step has no name
pub installed_named : (s : Scene) (d : ℕ) (why : Refusal) (w : World) → Installs s d (Err why) w → HasName why
installed_named s d (NotYet usn) w h = tt
installed_named s d (VectorFull count) w h = tt
installed_named s d (Unknown name) w (bad, same) = absurd bad
installed_named s d (Exists name) w (bad, same) = absurd bad
installed_named s d Itself w (bad, same) = absurd bad
installed_named s d (Local why) w (bad, same) = absurd bad

drains_named : (s : Scene) (d : ℕ) (steps : List InstallStep) (why : Refusal) (w : World) → Drains s d steps (Some why) w → HasName why
drains_named s d [] why w h = installed_named s d why w h
drains_named s d (step ∷ steps) why w (mid, one, more) = drains_named (in_world s mid) d steps why w more

pub drained_named : (s : Scene) (d : ℕ) (why : Refusal) (w : World) → DrainedBy s d (Err why) w → HasName why
drained_named s d why w (steps, drains) = drains_named s d steps why w drains

-- what a step prints, by the members' names
pub installed_said : {E : Type 0} (e : Engine) (s : Scene) (w : World) (name : List ℕ) (outcome : Result (Option InstallStep) Refusal) (r : Result (String Global) E) (names : List MemberName) → Stands e (in_world s w) → names ≡ e.names.items
    → IfOk r (λ text. string_bytes text ≡ installed_text names name outcome) → IfOk r (λ text. string_bytes text ≡ installed_text (members_of s) name outcome)
installed_said e s w name outcome r names h same said = subst (λ ns. IfOk r (λ text. string_bytes text ≡ installed_text ns name outcome)) (same ∙ h.names) said

-- so many steps were done
pub drained_done : (s : Scene) (d many : ℕ) (w : World) → DrainedBy s d (Ok many) w → DrainsAll s d (printed (codes "drained" ∷ decimal many ∷ [])) (in_world s w)
drained_done s d many w (steps, drains, count) = (steps, None, w, drains, ap (λ n. printed (codes "drained" ∷ decimal n ∷ [])) (sym count), refl)

pub drained_cut : (s : Scene) (d : ℕ) (why : Refusal) (w : World) → DrainedBy s d (Err why) w → DrainsAll s d (refused_text why) (in_world s w)
drained_cut s d why w (steps, drains) = (steps, Some why, w, drains, refl, refl)

-- ---- what a member has

-- the machine of a folder
pub machine_held : (e : Engine) (s : Scene) (at : ℕ) (f : Seen) → Stands e s → slice_get e.folders.items at ≡ Some f
    → MachineStands s.world.all (s.world.at (database_of (at + 1))) (database_of (at + 1)) f.machine
machine_held e s at f h found = h.machines.each at f.machine (get_map (λ (x : Seen). x.machine) e.folders.items at f found)

vector_of : (all : List Update) (x : Member) (d : ℕ) (m : Machine) → MachineStands all x d m → IsVectorOf x.known m.book.vector
vector_of all x d m s = record { canonical = s.book.vector.canonical; covering = s.book.vector.covering }

tree_of : (x : Member) (all : List Update) (d : ℕ) (m : Machine) (rows : List Row) → MachineStands all x d m → IsTreeOf (maps_of m.volume) rows → IsTreeOf x.volume rows
tree_of x all d m rows s t = subst (λ maps. IsTreeOf maps rows) (maps_are m.volume x.volume s.volume) t

pub shown : (e : Engine) (s : Scene) (name : List ℕ) (at : ℕ) (f : Seen) (text : List ℕ) → Stands e s → place_held e name ≡ Some at → slice_get e.folders.items at ≡ Some f
    → text ≡ vector_text e.names.items f.machine.book.vector ++ records_text e.names.items f.machine.book.records → AtNamed s name (λ d said after. Shows s d said × (after ≡ s)) text s
shown e s name at f text h some found is =
    let m = machine_held e s at f h found in
    at_some s name (λ d said after. Shows s d said × (after ≡ s)) at text s (sym (place_is e s name h) ∙ some) (
      (
        f.machine.book.vector,
        f.machine.book.records,
        vector_of s.world.all _ _ f.machine m,
        m.book.records,
        is ∙ (λ i. vector_text (h.names i) f.machine.book.vector ++ records_text (h.names i) f.machine.book.records),
      ),
      refl,
    )

pub treed : (e : Engine) (s : Scene) (at : ℕ) (f : Seen) (text : List ℕ) → Stands e s → slice_get e.folders.items at ≡ Some f → (rows : List Row) × IsTreeOf (maps_of f.machine.volume) rows × (text ≡ tree_text rows)
    → PrintsTree s (database_of (at + 1)) text × (s ≡ s)
treed e s at f text h found (rows, tree, is) = ((rows, tree_of _ s.world.all _ f.machine rows (machine_held e s at f h found) tree, is), refl)

pub summed : (e : Engine) (s : Scene) (at : ℕ) (f : Seen) (text : List ℕ) → Stands e s → slice_get e.folders.items at ≡ Some f
    → (rows : List Row) × IsTreeOf (maps_of f.machine.volume) rows × (text ≡ sums_text (files_of rows)) → PrintsSums s (database_of (at + 1)) text × (s ≡ s)
summed e s at f text h found (rows, tree, is) = ((rows, tree_of _ s.world.all _ f.machine rows (machine_held e s at f h found) tree, is), refl)

pub counted : (e : Engine) (s : Scene) (at : ℕ) (f : Seen) (rows : List Row) (text : List ℕ) → Stands e s → slice_get e.folders.items at ≡ Some f → IsTreeOf (maps_of f.machine.volume) rows
    → text ≡ count_text f.machine.book.records rows f.machine.book.vector → Counts s (database_of (at + 1)) text × (s ≡ s)
counted e s at f rows text h found tree is =
    let m = machine_held e s at f h found in
    ((f.machine.book.vector, f.machine.book.records, rows, vector_of s.world.all _ _ f.machine m, m.book.records, tree_of _ s.world.all _ f.machine rows m tree, is), refl)
