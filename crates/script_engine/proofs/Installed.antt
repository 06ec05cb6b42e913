-- What a step of the installer leaves of a sound world, and that there is one.
use Rattle.std.proofs.Common.{◌≡◌, ◌⊎◌, ℕ, Bool, true, false, cond, List, [], refl, sym, ap, ◌∙◌, subst, arith, inl, inr, Option, Some, None, Result, Ok, Err}
use Rattle.std.specs.Prelude.{MatchOption}
use Rattle.frs_base.specs.Options.{In}
use Rattle.frs_base.specs.Versions.{same_uid}
use Rattle.frs_base.specs.declared.kind.Kind.TheVariants.{File}
use Rattle.frs_base.specs.declared.sum.Sum.{Sum}
use Rattle.frs_base.specs.declared.version.Uid.{Uid}
use Rattle.win_order.specs.declared.update.Update.{Update}
use Rattle.vol_state.specs.declared.object.Object.{Object}
use Rattle.vol_state.specs.declared.command.VolCmd.{VolCmd}
use Rattle.vol_state.specs.declared.command.VolCmd.TheVariants as cmd
use Rattle.vol_state.specs.State.{uid_of}
use Rattle.vol_state.specs.Sums.{content_sum}
use Rattle.vol_state.specs.Tables.{IsAt}
use Rattle.record_db.specs.Staged.{with_uid}
use Rattle.record_db.proofs.Best.{held_is}
use Rattle.name_rules.specs.Next.{IsCandidate, IsStepOf, IsThere, IsTurn}
use Rattle.name_rules.specs.Recorded.{parent_uid}
use Rattle.name_rules.specs.Tree.{kind_of}
use Rattle.name_rules.specs.declared.step.Next.{Next as InstallNext}
use Rattle.name_rules.specs.declared.step.Next.TheVariants as next
use Rattle.name_rules.specs.declared.step.Step.{Step as InstallStep}
use Rattle.name_rules.specs.declared.step.Step.TheVariants.{Park, Erase, Make, Rewrite, Place, Unstage, Skip}
use Rattle.name_rules.proofs.Parents.{parent_is, parent_root}
use Rattle.name_rules.proofs.Showing.{shown_record}
use Rattle.world_model.specs.World.{Member, World, IsRecordOf, with_member}
use Rattle.world_model.specs.Events.{Records, consumed_by, consumes, operated, unstaged_at}
use Rattle.world_model.specs.Folder.{AreStaged as StagesContents, GivesStaged as GivesContents}
use Rattle.world_model.specs.Invariant.{Invariant}
use Rattle.world_model.specs.Laws.{IsAnswerAt, IsDone}
use Rattle.world_model.proofs.Changing.{at_same}
use Rattle.world_model.proofs.Due.{passes}
use Rattle.world_model.proofs.Facts.{none_some, some_is}
use Rattle.world_model.proofs.Next.{drained_members_have_none, next_steps_are_one, quiet_members_go_on}
use Rattle.world_model.proofs.Pending.{members_have_one_answer}
use Rattle.world_model.proofs.Progress.{HasHome, home, member_at, step_fits}
use Rattle.script_engine.specs.Sound.{AreStaged, IsSoundScene, IsSoundWorld}
use Rattle.script_engine.specs.Scene.{Scene}
use Rattle.script_engine.specs.declared.refusal.Refusal.{Refusal}
use Rattle.script_engine.specs.declared.refusal.Refusal.TheVariants.{Unknown, Exists, Itself, Local, NotYet, VectorFull}
use Rattle.script_engine.specs.declared.consumed.Consumed.TheVariants.{Skipped}
use Rattle.script_engine.specs.Consuming.{widened}
use Rattle.script_engine.specs.Installing.{DoesStep, GivesStaged, Installs, OperatesStep, contents_if, staged_contents}
use Rattle.script_engine.specs.Widening.{Exceeds, Fits}
use Rattle.script_engine.proofs.Passing.{Passes, consumes_one_passes, passes_refl}
use Rattle.script_engine.proofs.Replicas.{passes_install, passes_unstage}
use Rattle.script_engine.proofs.Vectors.{exceeds_one, fits_or_exceeds, not_both, vector_plus}

-- ---- a sound world

does_passes : (s : Scene) (d : ℕ) (step : InstallStep) (new : World) → IsSoundWorld s.world → DoesStep s d step new → Passes d s.world new
does_passes s d (Unstage uid) new h event = passes_unstage s.world d uid new h event
does_passes s d (Skip usn) new h one = consumes_one_passes s.world d 0 (Skipped usn) new (omega arith) h one
does_passes s d step new h operated = passes_install s.world d operated.0 new h operated.3

pub installs_pass : (s : Scene) (d : ℕ) (outcome : Result (Option InstallStep) Refusal) (new : World) → IsSoundWorld s.world → Installs s d outcome new → Passes d s.world new
installs_pass s d (Ok None) new h (drained, is) = subst (Passes d s.world) (sym is) (passes_refl d s.world h)
installs_pass s d (Ok (Some step)) new h (answer, does) = does_passes s d step new h does
installs_pass s d (Err why) new h (stopped, is) = subst (Passes d s.world) (sym is) (passes_refl d s.world h)

-- ---- what is staged

-- what is staged at a member was staged before
abbrev pub StagesNothing : World → ℕ → World → Type 0
StagesNothing w d new = (uid : Uid) (sum : Sum) → (new.at d).staged uid ≡ Some sum → (w.at d).staged uid ≡ Some sum

staged_of : (w : World) (d : ℕ) (x : Member) (new : World) → new.at d ≡ x → ((uid : Uid) (sum : Sum) → x.staged uid ≡ Some sum → (w.at d).staged uid ≡ Some sum) → StagesNothing w d new
staged_of w d x new is fewer uid sum e = fewer uid sum (ap (λ (y : Member). y.staged uid) (sym is) ∙ e)

-- where a content went, it is staged no more
still_staged : (staged : Uid → Option Sum) (gone uid : Uid) (sum : Sum) → with_uid staged gone None uid ≡ Some sum → staged uid ≡ Some sum
still_staged staged gone uid sum = by (same_uid uid gone)
  where
    by : (b : Bool) → cond b None (staged uid) ≡ Some sum → staged uid ≡ Some sum
    by true e = absurd (none_some sum e)
    by false e = e

operates_stage : (s : Scene) (d : ℕ) (step : InstallStep) (new : World) → OperatesStep s d step new → StagesNothing s.world d new
operates_stage s d step new (op, of_step, gives, (quiet, due, ok, is)) =
    staged_of s.world d (operated d op (s.world.at d)) new (ap (λ (z : World). z.at d) is ∙ at_same s.world.at d (operated d op (s.world.at d))) (λ uid sum e. e)

does_stage : (s : Scene) (d : ℕ) (step : InstallStep) (new : World) → DoesStep s d step new → StagesNothing s.world d new
does_stage s d (Unstage gone) new (fid, o, at, id, staged, is) =
    staged_of s.world d (unstaged_at gone (s.world.at d)) new (ap (λ (z : World). z.at d) is ∙ at_same s.world.at d (unstaged_at gone (s.world.at d))) (λ uid sum e. still_staged (s.world.at d).staged gone uid sum e)
does_stage s d (Skip usn) new (same, fits, records, is) =
    staged_of s.world d (consumed_by d None (s.world.at d)) new (ap (λ (z : World). z.at d) is ∙ at_same s.world.at d (consumed_by d None (s.world.at d))) (λ uid sum e. e)
does_stage s d step new operated = operates_stage s d step new operated

-- a step stages nothing
pub installs_stage : (s : Scene) (d : ℕ) (outcome : Result (Option InstallStep) Refusal) (new : World) → IsSoundWorld s.world → Installs s d outcome new
    → (uid : Uid) (sum : Sum) → (new.at d).staged uid ≡ Some sum → (s.world.at d).staged uid ≡ Some sum
installs_stage s d (Ok None) new h (drained, is) uid sum e = ap (λ (z : World). (z.at d).staged uid) (sym is) ∙ e
installs_stage s d (Ok (Some step)) new h (answer, does) uid sum e = does_stage s d step new does uid sum e
installs_stage s d (Err why) new h (stopped, is) uid sum e = ap (λ (z : World). (z.at d).staged uid) (sym is) ∙ e

-- ---- it is a step of the world

pub step_done : (s : Scene) (d : ℕ) (step : InstallStep) (new : World) → Installs s d (Ok (Some step)) new → IsDone s.world d step new
step_done s d (Park uid) new (answer, (op, of_step, gives, event)) = (op, of_step, event)
step_done s d (Erase uid) new (answer, (op, of_step, gives, event)) = (op, of_step, event)
step_done s d (Make uid) new (answer, (op, of_step, gives, event)) = (op, of_step, event)
step_done s d (Rewrite uid) new (answer, (op, of_step, gives, event)) = (op, of_step, event)
step_done s d (Place uid) new (answer, (op, of_step, gives, event)) = (op, of_step, event)
step_done s d (Unstage uid) new (answer, event) = event
step_done s d (Skip usn) new ((quiet, first), (same, fits, records, is)) = (0, same, quiet, (omega arith, None, records, is))

-- ---- it is one

-- one operation of a step
module _ (s : Scene) (d : ℕ) (h : Invariant s.world) where
  -- the object of a file has one number
  one_number : (f g : ℕ) (o q : Object) (uid : Uid) → IsAt (s.world.at d).volume f o → uid_of d o ≡ uid → IsAt (s.world.at d).volume g q → uid_of d q ≡ uid → f ≡ g
  one_number f g o q uid at is at' is' = (h.members d).places.uids f g o q at at' (is ∙ sym is')

  -- so has the directory with a UID
  one_parent : (f g : ℕ) → IsThere (s.world.at d).volume f → IsThere (s.world.at d).volume g → parent_uid d (s.world.at d).volume f ≡ parent_uid d (s.world.at d).volume g → f ≡ g
  one_parent f g (inl z) (inl z') e = z ∙ sym z'
  one_parent f g (inl z) (inr (q, at)) e =
      absurd ((h.members d).objects.no_root g q at (sym (parent_is d (s.world.at d).volume g q (h.members d).numbers.root at) ∙ (sym e ∙ parent_root d (s.world.at d).volume f z)))
  one_parent f g (inr (o, at)) (inl z) e =
      absurd ((h.members d).objects.no_root f o at (sym (parent_is d (s.world.at d).volume f o (h.members d).numbers.root at) ∙ (e ∙ parent_root d (s.world.at d).volume g z)))
  one_parent f g (inr (o, at)) (inr (q, at')) e =
      one_number f g o q (uid_of d q) at (sym (parent_is d (s.world.at d).volume f o (h.members d).numbers.root at) ∙ (e ∙ parent_is d (s.world.at d).volume g q (h.members d).numbers.root at')) at' refl

  -- and a file one record
  one_record : (uid : Uid) (u v : Update) → IsRecordOf s.world d u → u.uid ≡ uid → IsRecordOf s.world d v → v.uid ≡ uid → u ≡ v
  one_record uid u v r id r' id' = (member_at s.world h d).one u v r r' (id ∙ sym id')

  -- what a file is given is what is staged of it
  rewritten : (f : ℕ) (o : Object) (uid : Uid) (bytes : List ℕ) → IsAt (s.world.at d).volume f o → uid_of d o ≡ uid → GivesStaged s d (cmd.Rewrite f bytes) → bytes ≡ staged_contents s d uid
  rewritten f o uid bytes at is (q, at', given) = given ∙ ap (staged_contents s d) (ap (uid_of d) (some_is q o (sym at' ∙ at)) ∙ is)

  operation_one : (step : InstallStep) (a b : VolCmd) → IsStepOf (IsRecordOf s.world d) d (s.world.at d).volume step a → GivesStaged s d a → IsStepOf (IsRecordOf s.world d) d (s.world.at d).volume step b
      → GivesStaged s d b → a ≡ b
  operation_one (Park uid) a b (f, o, at, is, e) p (g, q, at', is', e') p' = e ∙ (ap cmd.Park (one_number f g o q uid at is at' is') ∙ sym e')
  operation_one (Erase uid) a b (f, o, at, is, e) p (g, q, at', is', e') p' = e ∙ (ap cmd.Erase (one_number f g o q uid at is at' is') ∙ sym e')
  operation_one (Make uid) a b (u, bytes, r, id, e) p (v, others, r', id', e') p' =
      let same : bytes ≡ others = subst (GivesStaged s d) e p ∙ sym (subst (GivesStaged s d) e' p') in
      let one = one_record uid u v r id r' id' in
      e ∙ ((λ i. cmd.Make uid (kind_of (one i)) (same i)) ∙ sym e')
  operation_one (Rewrite uid) a b (f, o, bytes, at, is, e) p (g, q, others, at', is', e') p' =
      let fid = one_number f g o q uid at is at' is' in
      let same : bytes ≡ others = rewritten f o uid bytes at is (subst (GivesStaged s d) e p) ∙ sym (rewritten g q uid others at' is' (subst (GivesStaged s d) e' p')) in
      e ∙ ((λ i. cmd.Rewrite (fid i) (same i)) ∙ sym e')
  operation_one (Place uid) a b (f, o, u, k, at, is, r, id, there, up, e) p (g, q, v, l, at', is', r', id', there', up', e') p' =
      let fid = one_number f g o q uid at is at' is' in
      let one = one_record uid u v r id r' id' in
      let parent = one_parent k l there there' (sym up ∙ (ap (λ (x : Update). x.parent) one ∙ up')) in
      e ∙ ((λ i. cmd.Place (fid i) (parent i) (one i).name) ∙ sym e')
  operation_one (Unstage uid) a b is p is' p' = absurd is
  operation_one (Skip usn) a b is p is' p' = absurd is

  operates_one : (step : InstallStep) (m n : World) → OperatesStep s d step m → OperatesStep s d step n → m ≡ n
  operates_one step m n (a, of_step, gives, (quiet, due, ok, is)) (b, of_step', gives', (quiet', due', ok', is')) =
      is ∙ (ap (λ op. with_member s.world d (operated d op (s.world.at d))) (operation_one step a b of_step gives of_step' gives') ∙ sym is')

  does_one : (step : InstallStep) (m n : World) → DoesStep s d step m → DoesStep s d step n → m ≡ n
  does_one (Unstage uid) m n (f, o, at, id, staged, is) (g, q, at', id', staged', is') = is ∙ sym is'
  does_one (Skip usn) m n (same, fits, r, is) (same', fits', r', is') = is ∙ sym is'
  does_one step m n p q = operates_one step m n p q

-- what comes of an answer
abbrev Follows : Scene → ℕ → InstallNext → Result (Option InstallStep) Refusal → World → Type 0
Follows s d next.Drained outcome new = (outcome ≡ Ok None) × (new ≡ s.world)
Follows s d (next.NotYet usn) outcome new = (outcome ≡ Err (NotYet usn)) × (new ≡ s.world)
Follows s d (next.Do step) outcome new = ((outcome ≡ Ok (Some step)) × DoesStep s d step new)
    ⊎ ((usn : ℕ) × (count : ℕ) × (step ≡ Skip usn) × (outcome ≡ Err (VectorFull count)) × Exceeds (widened s.world d) count × (new ≡ s.world))

-- something comes of the answer
follows : (s : Scene) (d : ℕ) (outcome : Result (Option InstallStep) Refusal) (new : World) → Installs s d outcome new → (answer : InstallNext) × IsAnswerAt s.world d answer × Follows s d answer outcome new
follows s d (Ok None) new (drained, is) = (next.Drained, drained, (refl, is))
follows s d (Ok (Some step)) new (answer, does) = (next.Do step, answer, inl (refl, does))
follows s d (Err (NotYet usn)) new (answer, is) = (next.NotYet usn, answer, (refl, is))
follows s d (Err (VectorFull count)) new ((usn, answer, much), is) = (next.Do (Skip usn), answer, inr (usn, count, refl, refl, much, is))
follows s d (Err (Unknown name)) new (bad, is) = absurd bad
follows s d (Err (Exists name)) new (bad, is) = absurd bad
follows s d (Err Itself) new (bad, is) = absurd bad
follows s d (Err (Local why)) new (bad, is) = absurd bad

-- a record that is passed leaves a vector that fits
never_both : (s : Scene) (d : ℕ) (step : InstallStep) (usn count : ℕ) (new : World) → step ≡ Skip usn → Exceeds (widened s.world d) count → DoesStep s d step new → ⊥
never_both s d step usn count new is much does = let passed = subst (λ x. DoesStep s d x new) is does in not_both (widened s.world d) count passed.1 much

follows_one : (s : Scene) (d : ℕ) (answer : InstallNext) (a b : Result (Option InstallStep) Refusal) (m n : World) → Invariant s.world → Follows s d answer a m → Follows s d answer b n → (a ≡ b) × (m ≡ n)
follows_one s d next.Drained a b m n h (p, q) (p', q') = (p ∙ sym p', q ∙ sym q')
follows_one s d (next.NotYet usn) a b m n h (p, q) (p', q') = (p ∙ sym p', q ∙ sym q')
follows_one s d (next.Do step) a b m n h (inl (p, does)) (inl (p', does')) = (p ∙ sym p', does_one s d h step m n does does')
follows_one s d (next.Do step) a b m n h (inl (p, does)) (inr (usn, count, is, p', much, q)) = absurd (never_both s d step usn count m is much does)
follows_one s d (next.Do step) a b m n h (inr (usn, count, is, p, much, q)) (inl (p', does)) = absurd (never_both s d step usn count n is much does)
follows_one s d (next.Do step) a b m n h (inr (usn, count, is, p, much, q)) (inr (usn', count', is', p', much', q')) =
    (p ∙ (ap (λ k. Err (VectorFull k)) (exceeds_one (widened s.world d) count count' much much') ∙ sym p'), q ∙ sym q')

-- ---- there is one

-- what is staged has the sums that the member says
contents_are : (s : Scene) (d : ℕ) (uid : Uid) → AreStaged (s.world.at d) (s.contents d) → StagesContents (s.world.at d) uid (staged_contents s d uid)
contents_are s d uid h = by ((s.world.at d).staged uid) refl
  where
    by : (staged : Option Sum) → (s.world.at d).staged uid ≡ staged → MatchOption staged (contents_if staged (s.contents d uid) ≡ []) (λ sum. content_sum File (contents_if staged (s.contents d uid)) ≡ sum)
    by None e = refl
    by (Some sum) e = h uid sum e

pub gives_contents : (s : Scene) (d : ℕ) (op : VolCmd) → AreStaged (s.world.at d) (s.contents d) → GivesStaged s d op → GivesContents d (s.world.at d) op
gives_contents s d (cmd.Make uid kind bytes) h is = subst (StagesContents (s.world.at d) uid) (sym is) (contents_are s d uid h)
gives_contents s d (cmd.Rewrite fid bytes) h (o, at, is) = λ q at'.
    subst (λ z. StagesContents (s.world.at d) (uid_of d z) bytes) (some_is o q (sym at ∙ at')) (subst (StagesContents (s.world.at d) (uid_of d o)) (sym is) (contents_are s d (uid_of d o) h))
gives_contents s d op h is = tt

-- a step has an operation
abbrev HasOperation : Scene → ℕ → InstallStep → Type 0
HasOperation s d step = (op : VolCmd) × IsStepOf (IsRecordOf s.world d) d (s.world.at d).volume step op × GivesStaged s d op

-- it is done
operates : (s : Scene) (d : ℕ) (step : InstallStep) → Invariant s.world → AreStaged (s.world.at d) (s.contents d) → IsAnswerAt s.world d (next.Do step)
    → IsTurn (IsRecordOf s.world d) d (s.world.at d).volume (s.world.at d).staged step → HasOperation s d step → (new : World) × OperatesStep s d step new
operates s d step h staged (quiet, first) turn (op, is, gives) =
    let (due, ok) = step_fits (λ u. In u s.world.all) (IsRecordOf s.world d) d (s.world.at d) (member_at s.world h d) quiet step op turn first.candidate is (gives_contents s d op staged gives) in
    (_, (op, is, gives, (quiet, due, ok, refl)))

-- something comes of asking for the next step
abbrev pub SomeInstall : Scene → ℕ → Type 0
SomeInstall s d = (outcome : Result (Option InstallStep) Refusal) × (new : World) × Installs s d outcome new

-- the operation of a step that has one
place_some : (s : Scene) (d : ℕ) (uid : Uid) → Invariant s.world → IsTurn (IsRecordOf s.world d) d (s.world.at d).volume (s.world.at d).staged (Place uid)
    → IsCandidate (IsRecordOf s.world d) d (s.world.at d).volume (s.world.at d).staged (s.world.at d).consumed (Place uid) → HasOperation s d (Place uid)
place_some s d uid h (park, erase, make, rewrite) (f, o, u, at, is, limbo, shown, id) = by (home (λ z. In z s.world.all) (IsRecordOf s.world d) d (s.world.at d) u (member_at s.world h d) make shown)
  where
    r : IsRecordOf s.world d u
    r = shown_record (IsRecordOf s.world d) u shown

    by : HasHome (IsRecordOf s.world d) d (s.world.at d) u → HasOperation s d (Place uid)
    by (inl root) = (cmd.Place f 0 u.name, (f, o, u, 0, at, is, r, id, inl refl, root, refl), tt)
    by (inr (p, g, q, pid, at', is', dir, rp)) =
        let up = sym pid ∙ (sym is' ∙ sym (parent_is d (s.world.at d).volume g q (h.members d).numbers.root at')) in
        (cmd.Place f g u.name, (f, o, u, g, at, is, r, id, inr (q, at'), up, refl), tt)

-- a journal record that is to be passed makes no update
pub skip_records : (w : World) (d usn : ℕ) → IsAnswerAt w d (next.Do (Skip usn)) → Records w d 0 None
skip_records w d usn (quiet, first) = records first.candidate
  where
    passed : (made : Option Update) → Records w d 0 made → Records w d 0 None
    passed made records = subst (Records w d 0) (passes w d 0 made quiet records) records

    records : IsCandidate (IsRecordOf w d) d (w.at d).volume (w.at d).staged (w.at d).consumed (Skip usn) → Records w d 0 None
    records (r, same, at) =
        let (held, is_held) = held_is w.all (w.at d).known r.uid in
        passed _ (r, held, subst (λ n. (w.at d).volume.entry n ≡ Some r) same at, is_held, refl)

-- a record of the installer's own is passed, where the vector then fits
skip_some : (s : Scene) (d usn : ℕ) → IsSoundWorld s.world → IsAnswerAt s.world d (next.Do (Skip usn)) → SomeInstall s d
skip_some s d usn h (quiet, first) = by (fits_or_exceeds (widened s.world d) (vector_plus (s.world.at d).known (record { db = d; version = (s.world.at d).consumed }) (h.vectors d)))
  where
    by : Fits (widened s.world d) ⊎ ((count : ℕ) × Exceeds (widened s.world d) count) → SomeInstall s d
    by (inl fits) = (Ok (Some (Skip usn)), consumes s.world d None, ((quiet, first), (first.candidate.1, fits, skip_records s.world d usn (quiet, first), refl)))
    by (inr (count, much)) = (Err (VectorFull count), s.world, ((usn, (quiet, first), much), refl))

step_some : (s : Scene) (d : ℕ) (step : InstallStep) → IsSoundWorld s.world → AreStaged (s.world.at d) (s.contents d) → IsAnswerAt s.world d (next.Do step)
    → IsTurn (IsRecordOf s.world d) d (s.world.at d).volume (s.world.at d).staged step → SomeInstall s d
step_some s d (Skip usn) h staged answer turn = skip_some s d usn h answer
step_some s d (Unstage uid) h staged answer turn =
    let (fid, o, at, id, is) = answer.1.candidate in
    (Ok (Some (Unstage uid)), with_member s.world d (unstaged_at uid (s.world.at d)), (answer, (fid, o, at, id, is, refl)))
step_some s d (Park uid) h staged answer turn =
    let (f, o, p, at, is, place, out) = answer.1.candidate in
    let (new, does) = operates s d (Park uid) h.invariant staged answer turn (cmd.Park f, (f, o, at, is, refl), tt) in
    (Ok (Some (Park uid)), new, (answer, does))
step_some s d (Erase uid) h staged answer turn =
    let (f, o, u, at, is, r, id, absent) = answer.1.candidate in
    let (new, does) = operates s d (Erase uid) h.invariant staged answer turn (cmd.Erase f, (f, o, at, is, refl), tt) in
    (Ok (Some (Erase uid)), new, (answer, does))
step_some s d (Make uid) h staged answer turn =
    let (u, shown, id, fresh) = answer.1.candidate in
    let bytes = staged_contents s d uid in
    let (new, does) = operates s d (Make uid) h.invariant staged answer turn (cmd.Make uid (kind_of u) bytes, (u, bytes, shown_record (IsRecordOf s.world d) u shown, id, refl), refl) in
    (Ok (Some (Make uid)), new, (answer, does))
step_some s d (Rewrite uid) h staged answer turn =
    let (f, o, u, at, is, r, id, file, differs) = answer.1.candidate in
    let bytes = staged_contents s d (uid_of d o) in
    let (new, does) = operates s d (Rewrite uid) h.invariant staged answer turn (cmd.Rewrite f bytes, (f, o, bytes, at, is, refl), (o, at, refl)) in
    (Ok (Some (Rewrite uid)), new, (answer, does))
step_some s d (Place uid) h staged answer turn =
    let (new, does) = operates s d (Place uid) h.invariant staged answer turn (place_some s d uid h.invariant turn answer.1.candidate) in
    (Ok (Some (Place uid)), new, (answer, does))

-- ---- what comes of asking

answer_one : (w : World) (d : ℕ) (a b : InstallNext) → Invariant w → IsAnswerAt w d a → IsAnswerAt w d b → a ≡ b
answer_one w d a b h p q = let (next, is, one) = members_have_one_answer w h d in one a p ∙ sym (one b q)

-- what comes of asking for the next step is one; of a sound world, whatever is staged
pub outcome_one : (s : Scene) (d : ℕ) (a b : Result (Option InstallStep) Refusal) (m n : World) → IsSoundWorld s.world → Installs s d a m → Installs s d b n → (a ≡ b) × (m ≡ n)
outcome_one s d a b m n h p q =
    let (answer, is, first) = follows s d a m p in
    let (other, is', second) = follows s d b n q in
    follows_one s d answer a b m n h.invariant first (subst (λ x. Follows s d x b n) (answer_one s.world d other answer h.invariant is' is) second)

pub installs_one : (s : Scene) (d : ℕ) (a b : Result (Option InstallStep) Refusal) (m n : World) → IsSoundScene s → Installs s d a m → Installs s d b n → (a ≡ b) × (m ≡ n)
installs_one s d a b m n h p q = outcome_one s d a b m n h.world p q

-- the turn of the next step has come
pub turn_at : (w : World) (d : ℕ) (step : InstallStep) → Invariant w → IsAnswerAt w d (next.Do step) → IsTurn (IsRecordOf w d) d (w.at d).volume (w.at d).staged step
turn_at w d step h (quiet, first) = elim (quiet_members_go_on w h d quiet) [
  | inl drained ↦ absurd (drained_members_have_none w h d drained step first)
  | inr (other, is, turn) ↦ subst (IsTurn (IsRecordOf w d) d (w.at d).volume (w.at d).staged) (next_steps_are_one w d other step is first) turn
]

-- something comes of it, where the world is sound, and what is staged at the member has the sums that it says
pub outcome_some : (s : Scene) (d : ℕ) → IsSoundWorld s.world → AreStaged (s.world.at d) (s.contents d) → SomeInstall s d
outcome_some s d h staged = let (answer, is, one) = members_have_one_answer s.world h.invariant d in by answer is
  where
    by : (answer : InstallNext) → IsAnswerAt s.world d answer → SomeInstall s d
    by next.Drained is = (Ok None, s.world, (is, refl))
    by (next.NotYet usn) is = (Err (NotYet usn), s.world, (is, refl))
    by (next.Do step) is = step_some s d step h staged is (turn_at s.world d step h.invariant is)

pub installs_some : (s : Scene) (d : ℕ) → IsSoundScene s → (outcome : Result (Option InstallStep) Refusal) × (new : World) × Installs s d outcome new
installs_some s d h = outcome_some s d h.world (h.staged d)
