-- What is recorded is covered, and stays so.
use Rattle.std.proofs.Common.{◌≡◌, ◌≢◌, ◌<◌, ◌+◌, ◌++◌, ◌⊎◌, ℕ, zero, suc, List, [], ◌∷◌, length, sym, ap, ◌∙◌, subst, arith, inl, inr, Some, All}
use Rattle.std.specs.Prelude.{slice_get}
use Rattle.std.proofs.lemmas.Bool.{cases_eq}
use Rattle.std.proofs.lemmas.List.Elements.{All-head, All-tail}
use Rattle.frs_base.specs.Identifiers.{database_of}
use Rattle.frs_base.specs.Options.{In}
use Rattle.frs_base.specs.declared.kind.MemberKind.{MemberKind}
use Rattle.win_order.specs.declared.update.Update.{Update}
use Rattle.record_db.proofs.Lists.{lists_one, lists_same}
use Rattle.script_lang.specs.Grammar.{IsLine}
use Rattle.script_lang.specs.declared.line.Line.{Line}
use Rattle.world_model.specs.World.{Member, IsRecordOf}
use Rattle.world_model.specs.Runs.{Grows}
use Rattle.world_model.proofs.Growth.{grows_refl, grows_trans, member_grows}
use Rattle.world_model.proofs.Headline.{equal_records}
use Rattle.script_engine.specs.Scene.{Scene, fresh_scene, with_name}
use Rattle.script_engine.specs.Sound.{IsNobodys, IsSoundScene}
use Rattle.script_engine.specs.Text.{Does, Run}
use Rattle.script_engine.specs.Scripts.{EqualRecords, IsCovered, RecordedIsCovered, StaysCovered}
use Rattle.script_engine.proofs.Scenes.{does_follow, fresh_scene_sound, line_keeps, run_keeps}

-- ---- what only grows

named_grows : (s : Scene) (name : List ℕ) (kind : MemberKind) → Grows s.world (with_name s name kind).world
named_grows s name kind = member_grows s.world (database_of (length s.names + 1)) (record (s.world.at (database_of (length s.names + 1))) { kind = kind }) (omega arith) (λ g t. t)

line_grows : (s : Scene) (line : Line) (text : List ℕ) (new : Scene) → IsSoundScene s → IsLine line → Does s line text new → Grows s.world new.world
line_grows s line text new h form does = does_follow s (λ (z : Scene). Grows s.world z.world) line text new h form (record {
  same = grows_refl s.world;
  further = λ name d new named l. l.passes.grows;
  named = λ name kind. named_grows s name kind;
}) does

pub run_grows : (s : Scene) (lines : List Line) (text : List ℕ) (new : Scene) → IsSoundScene s → All IsLine lines → Run s lines text new → Grows s.world new.world
run_grows s [] text new h all (said, is) = subst (λ (z : Scene). Grows s.world z.world) (sym is) (grows_refl s.world)
run_grows s (line ∷ rest) text new h all (first, mid, more, does, run, said) =
    let form = All-head IsLine line rest all in
    grows_trans s.world mid.world new.world (line_grows s line first mid h form does) (run_grows mid rest more new (line_keeps s line first mid h form does) (All-tail IsLine line rest all) run)

-- ---- names stay

get_push : {X : Type 0} (xs : List X) (y : X) (k : ℕ) (x : X) → slice_get xs k ≡ Some x → slice_get (xs ++ y ∷ []) k ≡ Some x
get_push [] y k x e = absurd (cc)
get_push (z ∷ xs) y zero x e = e
get_push (z ∷ xs) y (suc k) x e = get_push xs y k x e

line_names : (s : Scene) (line : Line) (text : List ℕ) (new : Scene) (k : ℕ) (name : List ℕ) → IsSoundScene s → IsLine line → Does s line text new → slice_get s.names k ≡ Some name → slice_get new.names k ≡ Some name
line_names s line text new k name h form does at = does_follow s (λ (z : Scene). slice_get z.names k ≡ Some name) line text new h form (record {
  same = at;
  further = λ other d new named l. subst (λ ns. slice_get ns k ≡ Some name) (sym l.names) at;
  named = λ other kind. get_push s.names other k name at;
}) does

run_names : (s : Scene) (lines : List Line) (text : List ℕ) (new : Scene) (k : ℕ) (name : List ℕ) → IsSoundScene s → All IsLine lines → Run s lines text new → slice_get s.names k ≡ Some name → slice_get new.names k ≡ Some name
run_names s [] text new k name h all (said, is) at = subst (λ (z : Scene). slice_get z.names k ≡ Some name) (sym is) at
run_names s (line ∷ rest) text new k name h all (first, mid, more, does, run, said) at =
    let form = All-head IsLine line rest all in
    run_names mid rest more new k name (line_keeps s line first mid h form does) (All-tail IsLine line rest all) run (line_names s line first mid k name h form does at)

pub stays_covered : StaysCovered
stays_covered s more said new h all run k name at = (run_names s more said new k name h all run at, (run_grows s more said new h all run).known (database_of (k + 1)))

-- ---- what is recorded

-- a database is a name's, or nobody's
named_or : (n d : ℕ) → ((k : ℕ) × (k < n) × (d ≡ database_of (k + 1))) ⊎ ((k : ℕ) → k < n → d ≢ database_of (k + 1))
named_or zero d = inr (λ k within e. omega (arith, within))
named_or (suc n) d = by (cases_eq d (database_of (n + 1))) (named_or n d)
  where
    by : (d ≡ database_of (n + 1)) ⊎ (d ≢ database_of (n + 1)) → ((k : ℕ) × (k < n) × (d ≡ database_of (k + 1))) ⊎ ((k : ℕ) → k < n → d ≢ database_of (k + 1))
        → ((k : ℕ) × (k < suc n) × (d ≡ database_of (k + 1))) ⊎ ((k : ℕ) → k < suc n → d ≢ database_of (k + 1))
    by (inl e) more = inl (n, omega arith, e)
    by (inr apart) (inl (k, within, e)) = inl (k, omega (arith, within), e)
    by (inr apart) (inr nobody) = inr (λ k within e. elim (cases_eq k n) [ inl same ↦ apart (e ∙ ap (λ x. database_of (x + 1)) same) | inr other ↦ nobody k (omega (arith, within, other)) e ])

-- a version is covered by the member of its database, which is named
pub covered_by : (s : Scene) → IsSoundScene s → (u : Update) → In u s.world.all → IsCovered s u.gvsn
covered_by s h u a = by (named_or (length s.names) u.gvsn.db)
  where
    by : ((k : ℕ) × (k < length s.names) × (u.gvsn.db ≡ database_of (k + 1))) ⊎ IsNobodys s u.gvsn.db → IsCovered s u.gvsn
    by (inl (k, within, is)) = (k, within, is, h.world.invariant.versions.own u.gvsn (h.world.invariant.versions.recorded u a))
    by (inr nobody) =
        let (low, high) = h.world.invariant.versions.recorded u a in
        let (kind, is) = h.unnamed u.gvsn.db nobody in
        let none : (s.world.at u.gvsn.db).consumed ≡ 9 = ap (λ (x : Member). x.consumed) is in
        absurd (omega (arith, low, high, none))

pub recorded_is_covered : RecordedIsCovered
recorded_is_covered before said s all run = covered_by s (run_keeps fresh_scene before said s fresh_scene_sound all run)

-- ---- equal sets

pub equal_records_of : EqualRecords
equal_records_of s more said new h all run i j same =
    let alike = equal_records s.world new.world h.world.invariant.versions (run_grows s more said new h all run) i j same in
    (alike, λ a b k l. lists_one (IsRecordOf new.world j) a b (lists_same (IsRecordOf s.world i) (IsRecordOf new.world j) a (λ u. (alike u).0) (λ u. (alike u).1) k) l)
