-- What lines print and leave, by all of their names.
use Rattle.std.proofs.Common.{◌≡◌, ◌≢◌, ◌<◌, ◌+◌, ◌^◌, ◌++◌, ◌⊎◌, ℕ, zero, suc, true, false, cond, List, [], ◌∷◌, length, map, refl, sym, ap, ◌∙◌, subst, arith, inl, inr, Some, None, Result, Ok, Err, IfOk, String, bytes_eq, MatchOption}
use Rattle.std.specs.Prelude.{codes, decimal, is_some, slice_get, string_bytes}
use Rattle.std.specs.declared.alloc.Global.{Global}
use Rattle.std.proofs.lemmas.List.{length-append}
use Rattle.std.proofs.lemmas.List.Elements.{All-push}
use Rattle.std.proofs.lemmas.List.Sums.{sum_by_push}
use Rattle.std.proofs.lemmas.Option.{slice_get_within}
use Rattle.frs_base.specs.Identifiers.{content_set, database_of}
use Rattle.frs_base.specs.declared.kind.MemberKind.{MemberKind}
use Rattle.record_db.proofs.Standing.{begins_standing}
use Rattle.win_order.specs.declared.update.Update.{Update}
use Rattle.world_model.specs.World.{Member, fresh_member}
use Rattle.world_model.proofs.Changing.{at_other, at_same}
use Rattle.folder_core.specs.Machine.{Machine, fresh_machine}
use Rattle.folder_core.specs.Replay.{Seen}
use Rattle.folder_core.specs.Sound.{IsSound as IsSoundMachine}
use Rattle.script_lang.specs.declared.line.Line.{Line}
use Rattle.script_lang.specs.declared.line.Line.TheVariants as lines
use Rattle.script_engine.specs.declared.engine.Engine.{Engine}
use Rattle.script_engine.specs.declared.names.MemberName.{MemberName}
use Rattle.script_engine.specs.declared.refusal.Refusal.{Refusal}
use Rattle.script_engine.specs.declared.refusal.Refusal.TheVariants.{Exists, Itself, Unknown}
use Rattle.script_engine.specs.Engines.{AtNamed, Stands, machines_of}
use Rattle.script_engine.specs.Named.{AreNamed, is_name_or_empty}
use Rattle.script_engine.specs.Printed.{printed}
use Rattle.script_engine.specs.Pulls.{PullEnds}
use Rattle.script_engine.specs.Refusals.{first_refusal, refused_text, unless_named}
use Rattle.script_engine.specs.Scene.{IsNamed, Scene, numbered, place_of, with_name}
use Rattle.script_engine.specs.Sound.{IsNobodys}
use Rattle.script_engine.specs.Standing.{HoldsContents, MachineStands, MachinesStand, recorded_in}
use Rattle.script_engine.specs.Text.{Acts, Does, IsRefused, left_by}
use Rattle.script_engine.proofs.Events.{ok_by}
use Rattle.script_engine.proofs.Scenes.{sound_with_name}
use Rattle.script_engine.proofs.Spoken.{does_at}
use Rattle.script_engine.proofs.Texts.{said_of}
use Rattle.script_engine.proofs.Volumes.{fresh_lists}

-- ---- refused, or not

pub does_refuse : (s : Scene) (line : Line) (why : Refusal) → first_refusal s line ≡ Some why → Does s line (refused_text why) (left_by s line)
does_refuse s line why first = subst (λ f. MatchOption f (Acts s line (refused_text why) (left_by s line)) (λ w. IsRefused (left_by s line) w (refused_text why) (left_by s line))) (sym first) (refl, refl)

pub does_act : (s : Scene) (line : Line) (text : List ℕ) (new : Scene) → first_refusal s line ≡ None → Acts s line text new → Does s line text new
does_act s line text new first acts = subst (λ f. MatchOption f (Acts s line text new) (λ w. IsRefused (left_by s line) w text new)) (sym first) acts

pub refused_said : {E : Type 0} (e : Engine) (s : Scene) (line : Line) (why : Refusal) (r : Result (String Global) E) → Stands e (left_by s line) → first_refusal s line ≡ Some why → IfOk r (λ text. string_bytes text ≡ refused_text why)
    → IfOk r (λ text. (new : Scene) × Does s line (string_bytes text) new × Stands e new)
refused_said e s line why r h first said = said_of r (refused_text why) (λ t. (new : Scene) × Does s line t new × Stands e new) said (left_by s line, does_refuse s line why first, h)

pub acted_said : {E : Type 0} (s : Scene) (line : Line) (r : Result (String Global) E) (text : List ℕ) (new : Scene) (after : Engine) → first_refusal s line ≡ None → IfOk r (λ made. string_bytes made ≡ text) → Acts s line text new → Stands after new
    → IfOk r (λ made. (new : Scene) × Does s line (string_bytes made) new × Stands after new)
acted_said s line r text new after first said acts stands = said_of r text (λ t. (new : Scene) × Does s line t new × Stands after new) said (new, does_act s line text new first acts, stands)

-- ---- pull

pub pull_none : (s : Scene) (name other : List ℕ) → place_of s.names name ≡ None → first_refusal s (lines.Pull name other) ≡ Some (Unknown name)
pull_none s name other e = ap (λ p. cond (is_some p) (cond (is_some (place_of s.names other)) (cond (bytes_eq name other) (Some Itself) None) (Some (Unknown other))) (Some (Unknown name))) e

pub pull_from_none : (s : Scene) (name other : List ℕ) (at : ℕ) → place_of s.names name ≡ Some at → place_of s.names other ≡ None → first_refusal s (lines.Pull name other) ≡ Some (Unknown other)
pull_from_none s name other at e f = λ i. cond (is_some (e i)) (cond (is_some (f i)) (cond (bytes_eq name other) (Some Itself) None) (Some (Unknown other))) (Some (Unknown name))

pub pull_itself : (s : Scene) (name other : List ℕ) (at from : ℕ) → place_of s.names name ≡ Some at → place_of s.names other ≡ Some from → bytes_eq name other ≡ true → first_refusal s (lines.Pull name other) ≡ Some Itself
pull_itself s name other at from e f same = λ i. cond (is_some (e i)) (cond (is_some (f i)) (cond (same i) (Some Itself) None) (Some (Unknown other))) (Some (Unknown name))

pub pull_first : (s : Scene) (name other : List ℕ) (at from : ℕ) → place_of s.names name ≡ Some at → place_of s.names other ≡ Some from → bytes_eq name other ≡ false → first_refusal s (lines.Pull name other) ≡ None
pull_first s name other at from e f apart = λ i. cond (is_some (e i)) (cond (is_some (f i)) (cond (apart i) (Some Itself) None) (Some (Unknown other))) (Some (Unknown name))

pub pull_done : (s : Scene) (name other : List ℕ) (at from taken : ℕ) (new : Scene) → place_of s.names name ≡ Some at → place_of s.names other ≡ Some from
    → PullEnds s (database_of (at + 1)) (database_of (from + 1)) (Ok taken) new → Acts s (lines.Pull name other) (printed (codes "pulled" ∷ decimal taken ∷ [])) new
pull_done s name other at from taken new e f pulls = (database_of (at + 1), database_of (from + 1), taken, None, (at, e, refl), (from, f, refl), pulls, refl)

pub pull_cut : (s : Scene) (name other : List ℕ) (at from : ℕ) (why : Refusal) (new : Scene) → place_of s.names name ≡ Some at → place_of s.names other ≡ Some from
    → PullEnds s (database_of (at + 1)) (database_of (from + 1)) (Err why) new → Acts s (lines.Pull name other) (refused_text why) new
pull_cut s name other at from why new e f (taken, pulls) = (database_of (at + 1), database_of (from + 1), taken, Some why, (at, e, refl), (from, f, refl), pulls, refl)

-- ---- a new member

pub member_known : (s : Scene) (name : List ℕ) (kind : MemberKind) → is_some (place_of s.names name) ≡ true → first_refusal s (lines.Member name kind) ≡ Some (Exists name)
member_known s name kind e = ap (λ b. cond b (Some (Exists name)) None) e

pub member_new : (s : Scene) (name : List ℕ) (kind : MemberKind) → is_some (place_of s.names name) ≡ false → first_refusal s (lines.Member name kind) ≡ None
member_new s name kind e = ap (λ b. cond b (Some (Exists name)) None) e

numbered_push : (k : ℕ) (names : List (List ℕ)) (name : List ℕ) → numbered k (names ++ name ∷ []) ≡ numbered k names ++ record { db = database_of (k + length names); name = name } ∷ []
numbered_push k [] name = let same : k ≡ k + 0 = omega arith in ap (λ n. record { db = database_of n; name = name } ∷ []) same
numbered_push k (n ∷ names) name =
    let next : (k + 1) + length names ≡ k + length (n ∷ names) = omega arith in
    ap (λ l. record { db = database_of k; name = n } ∷ l) (numbered_push (k + 1) names name ∙ ap (λ m. numbered (k + 1) names ++ record { db = database_of m; name = name } ∷ []) next)

push_at : {X : Type 0} (xs : List X) (y : X) (k : ℕ) (z : X) → slice_get (xs ++ y ∷ []) k ≡ Some z → (slice_get xs k ≡ Some z) ⊎ ((k ≡ length xs) × (z ≡ y))
push_at [] y zero z e = inr (refl, let same : y ≡ z = cc in sym same)
push_at [] y (suc k) z e = absurd (cc)
push_at (x ∷ xs) y zero z e = inl e
push_at (x ∷ xs) y (suc k) z e = elim (push_at xs y k z e) [ inl old ↦ inl old | inr now ↦ inr (ap suc now.0, now.1) ]

-- the machine of a member that has done nothing
fresh_stands : (all : List Update) (x : Member) (d : ℕ) (kind before : MemberKind) → x ≡ fresh_member before → IsSoundMachine (fresh_machine kind d content_set) → MachineStands all (record x { kind = kind }) d (fresh_machine kind d content_set)
fresh_stands all x d kind before is keeps = subst (λ y. MachineStands all (record y { kind = kind }) d (fresh_machine kind d content_set)) (sym is) (record {
  sound = keeps;
  own = refl;
  set = refl;
  kind = refl;
  forms = λ uid. None;
  book = begins_standing kind d content_set all;
  staged = λ uid. refl;
  volume = (fresh_lists d).stands;
})

none_form : (form : List ℕ) → None ≡ Some form → ⊥
none_form form e = cc

-- machines that stand for a scene go on to with one more
pub machines_more : (machines : List Machine) (s : Scene) (name : List ℕ) (kind : MemberKind) → MachinesStand machines s → IsSoundMachine (fresh_machine kind (database_of (length s.names + 1)) content_set)
    → MachinesStand (machines ++ fresh_machine kind (database_of (length s.names + 1)) content_set ∷ []) (with_name s name kind)
machines_more machines s name kind h keeps = record {
  many = let a = length-append machines (fresh_machine kind (database_of (length s.names + 1)) content_set ∷ []) in
      let b = length-append s.names (name ∷ []) in
      let many = h.many in omega (arith, a, b, many);
  each = λ k m found. elim (push_at machines (fresh_machine kind (database_of (length s.names + 1)) content_set) k m found) [ inl old ↦ before k m old | inr now ↦ last k m now.0 now.1 ];
  contents = λ k m found. elim (push_at machines (fresh_machine kind (database_of (length s.names + 1)) content_set) k m found) [ inl old ↦ h.contents k m old | inr now ↦ subst (HoldsContents (s.contents (database_of (k + 1)))) (sym now.1) (λ uid form e. absurd (none_form form e)) ];
  ours = h.ours;
  usns = λ k m found. elim (push_at machines (fresh_machine kind (database_of (length s.names + 1)) content_set) k m found) [ inl old ↦ h.usns k m old | inr now ↦ subst (λ (z : Machine). z.volume.next_usn < 2 ^ 64) (sym now.1) (omega arith) ];
  counted = let push = sum_by_push recorded_in machines (fresh_machine kind (database_of (length s.names + 1)) content_set) in let counted = h.counted in omega (arith, push, counted);
  scene = sound_with_name s name kind h.scene;
}
  where
    before : (k : ℕ) (m : Machine) → slice_get machines k ≡ Some m → MachineStands s.world.all ((with_name s name kind).world.at (database_of (k + 1))) (database_of (k + 1)) m
    before k m old =
        let within = slice_get_within machines k m old in
        let many = h.many in
        let other : database_of (k + 1) ≢ database_of (length s.names + 1) = λ e. omega (arith, e, within, many) in
        subst (λ x. MachineStands s.world.all x (database_of (k + 1)) m)
        (sym (at_other s.world.at (database_of (length s.names + 1)) (record (s.world.at (database_of (length s.names + 1))) { kind = kind }) (database_of (k + 1)) other)) (h.each k m old)

    last : (k : ℕ) (m : Machine) → k ≡ length machines → m ≡ fresh_machine kind (database_of (length s.names + 1)) content_set → MachineStands s.world.all ((with_name s name kind).world.at (database_of (k + 1))) (database_of (k + 1)) m
    last k m place is =
        let d = database_of (length s.names + 1) in
        let nobody : IsNobodys s (database_of (length s.names + 1)) = λ j within e. omega (arith, within, e) in
        let (kept, was) = h.scene.unnamed (database_of (length s.names + 1)) nobody in
        let fresh = fresh_stands s.world.all (s.world.at (database_of (length s.names + 1))) (database_of (length s.names + 1)) kind kept was keeps in
        let here = subst (λ x. MachineStands s.world.all x (database_of (length s.names + 1)) (fresh_machine kind (database_of (length s.names + 1)) content_set))
        (sym (at_same s.world.at (database_of (length s.names + 1)) (record (s.world.at (database_of (length s.names + 1))) { kind = kind }))) fresh in
        let many = h.many in
        let same : length s.names ≡ k = omega (arith, many, place) in
        subst (MachineStands s.world.all ((with_name s name kind).world.at (database_of (k + 1))) (database_of (k + 1))) (sym is)
        (subst (λ j. MachineStands s.world.all ((with_name s name kind).world.at (database_of (j + 1))) (database_of (j + 1)) (fresh_machine kind (database_of (length s.names + 1)) content_set)) same here)

-- an engine with one more member
pub stands_more : (old new : Engine) (s : Scene) (name : List ℕ) (kind : MemberKind) (m : MemberName) (f : Seen) → Stands old s → is_name_or_empty name ≡ true → new.names.items ≡ old.names.items ++ m ∷ [] → new.folders.items ≡ old.folders.items ++ f ∷ []
    → m ≡ record { db = database_of (length old.names.items + 1); name = name } → f.machine ≡ fresh_machine kind (database_of (length old.names.items + 1)) content_set → IsSoundMachine f.machine → Stands new (with_name s name kind)
stands_more old new s name kind m f h formed names folders named fresh keeps = record {
  names = names ∙ (λ i. h.names i ++ here i ∷ []) ∙ sym (numbered_push 1 s.names name);
  formed = subst AreNamed (sym names) (All-push (λ x. is_name_or_empty x.name ≡ true) old.names.items m h.formed (subst (λ (x : MemberName). is_name_or_empty x.name ≡ true) (sym named) formed));
  machines = subst (λ ms. MachinesStand ms (with_name s name kind)) (sym machines) (machines_more (machines_of old) s name kind h.machines (subst IsSoundMachine machine keeps));
}
  where
    long : length old.names.items ≡ length s.names
    long = ap length h.names ∙ numbered_length 1 s.names
      where
        numbered_length : (k : ℕ) (names : List (List ℕ)) → length (numbered k names) ≡ length names
        numbered_length k [] = refl
        numbered_length k (n ∷ names) = ap suc (numbered_length (k + 1) names)

    here : m ≡ record { db = database_of (1 + length s.names); name = name }
    here = let next : length old.names.items + 1 ≡ 1 + length s.names = let same = long in omega (arith, same) in named ∙ ap (λ n. record { db = database_of n; name = name }) next

    machine : f.machine ≡ fresh_machine kind (database_of (length s.names + 1)) content_set
    machine = fresh ∙ ap (λ n. fresh_machine kind (database_of (n + 1)) content_set) long

    machines : machines_of new ≡ machines_of old ++ fresh_machine kind (database_of (length s.names + 1)) content_set ∷ []
    machines = ap (map (λ (x : Seen). x.machine)) folders ∙ map_push old.folders.items f ∙ ap (λ x. machines_of old ++ x ∷ []) machine
      where
        map_push : (xs : List Seen) (y : Seen) → map (λ (x : Seen). x.machine) (xs ++ y ∷ []) ≡ map (λ (x : Seen). x.machine) xs ++ y.machine ∷ []
        map_push [] y = refl
        map_push (x ∷ xs) y = ap (λ l. x.machine ∷ l) (map_push xs y)

-- ---- lines at a member

pub named_line : {E : Type 0} (s : Scene) (line given : Line) (name : List ℕ) (C : ℕ → List ℕ → Scene → Type 0) (r : Result (String Global) E) (after : Engine) → line ≡ given → first_refusal s line ≡ unless_named s name → left_by s line ≡ s
    → ((d : ℕ) (text : List ℕ) (new : Scene) → IsNamed s name d → C d text new → Acts s line text new) → IfOk r (λ text. (new : Scene) × AtNamed s name C (string_bytes text) new × Stands after new)
    → IfOk r (λ text. (new : Scene) × Does s given (string_bytes text) new × Stands after new)
named_line s line given name C r after same first left acts said =
    subst (λ l. IfOk r (λ text. (new : Scene) × Does s l (string_bytes text) new × Stands after new)) same
    (ok_by r (λ text. (new : Scene) × AtNamed s name C (string_bytes text) new × Stands after new) (λ text. (new : Scene) × Does s line (string_bytes text) new × Stands after new) said
    (λ text (new, comes, stands). (new, does_at s line name C (string_bytes text) new first left (λ d named c. acts d (string_bytes text) new named c) comes, stands)))

pub printed_line : {E : Type 0} (s : Scene) (line given : Line) (name : List ℕ) (C : ℕ → List ℕ → Scene → Type 0) (r : Result (String Global) E) (after : Engine) → line ≡ given → first_refusal s line ≡ unless_named s name → left_by s line ≡ s
    → ((d : ℕ) (text : List ℕ) → IsNamed s name d → C d text s → Acts s line text s) → Stands after s → IfOk r (λ text. AtNamed s name C (string_bytes text) s)
    → IfOk r (λ text. (new : Scene) × Does s given (string_bytes text) new × Stands after new)
printed_line s line given name C r after same first left acts stands said =
    subst (λ l. IfOk r (λ text. (new : Scene) × Does s l (string_bytes text) new × Stands after new)) same
    (ok_by r (λ text. AtNamed s name C (string_bytes text) s) (λ text. (new : Scene) × Does s line (string_bytes text) new × Stands after new) said
    (λ text comes. (s, does_at s line name C (string_bytes text) s first left (λ d named c. acts d (string_bytes text) named c) comes, stands)))
