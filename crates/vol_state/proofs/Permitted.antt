-- A command that an operation comes to may be done.
use Rattle.std.proofs.Common.{◌≡◌, ◌⊎◌, inl, inr, ℕ, suc, false, List, [], ◌∷◌, length, Result, Ok, Err, refl, sym, subst}
use Rattle.vol_state.specs.declared.object.Object.{Object}
use Rattle.vol_state.specs.declared.operation.LocalOp.TheVariants as op
use Rattle.vol_state.specs.declared.operation.Refused.{Refused}
use Rattle.vol_state.specs.declared.operation.Refused.TheVariants.{TooLarge, NoPath, Looped, NameTaken, NotEmpty}
use Rattle.vol_state.specs.declared.command.VolCmd.{VolCmd}
use Rattle.vol_state.specs.declared.command.VolCmd.TheVariants.{PutNew, PutOver, Mkdir, Move, Remove}
use Rattle.vol_state.specs.Maps.{Maps}
use Rattle.vol_state.specs.Tables.{IsAt, IsDirectory, LeadsBy, IsReached, IsFree, IsLocal}
use Rattle.vol_state.specs.Ways.{IsChild, HasNobody, Goes, IsWay, Follows, Finds, Puts, Makes, Moves, Removes, ResolvedMay}
use Rattle.vol_state.proofs.Climbing.{by_cases}

-- what stands in a directory that is reached is reached
child_leads : (m : Maps) (parent : ℕ) (name : List ℕ) (fid : ℕ) (o : Object) → IsChild m parent name fid o → IsReached m parent → IsReached m fid
child_leads m parent name fid o c r = (suc r.0, inr (o, c.1, inr (c.0, c.2, subst (LeadsBy false m r.0) (sym c.3) r.1)))

-- and so are the directories on a way from there
goes_open : (m : Maps) (above : List (List ℕ)) (from to : ℕ) → IsDirectory m from → IsReached m from → Goes m from above to → IsDirectory m to × IsReached m to
goes_open m [] from to d r g = (subst (IsDirectory m) g d, subst (IsReached m) g r)
goes_open m (name ∷ rest) from to d r g =
    let (fid, (o, c, kind), more) = g in
    goes_open m rest fid to (inr (o, c.1, kind)) (child_leads m from name fid o c r) more

way_open : (m : Maps) (path : List (List ℕ)) (parent : ℕ) (name : List ℕ) → IsWay m path parent name → IsDirectory m parent × IsReached m parent
way_open m path parent name w = goes_open m w.0 0 parent (inl refl) (0, refl) w.2

nobody_free : (m : Maps) (fid parent : ℕ) (name : List ℕ) → HasNobody m parent name → IsFree m fid parent name
nobody_free m fid parent name nobody g o p at place under named = absurd (nobody g o (p, at, place, under, named))

-- what follows a path that has no refusal
followed : (m : Maps) (path : List (List ℕ)) (next : ℕ → List ℕ → Result VolCmd Refused → Type 0) (cmd : VolCmd) → Follows m path next (Ok cmd) → (parent : ℕ) × (name : List ℕ) × IsWay m path parent name × next parent name (Ok cmd)
followed m path next cmd f = by_cases f (λ r. absurd (no r.0 r.2)) (λ r. r)
  where
    no : (why : Refused) → Ok cmd ≡ Err why → ⊥
    no why e = absurd (cc)

-- and the object that a path leads to
found : (m : Maps) (path : List (List ℕ)) (next : ℕ → Result VolCmd Refused → Type 0) (cmd : VolCmd) → Finds m path next (Ok cmd) → (fid : ℕ) × (o : Object) × IsAt m fid o × IsReached m fid × next fid (Ok cmd)
found m path next cmd f =
    let r = followed m path (λ parent name answer. (HasNobody m parent name × (answer ≡ Err NoPath)) ⊎ ((fid : ℕ) × (o : Object) × IsChild m parent name fid o × next fid answer)) cmd f in
    by_cases r.3
    (λ n. absurd (no n.1))
    (λ c. (c.0, c.1, c.2.1, child_leads m r.0 r.1 c.0 c.1 c.2 (way_open m path r.0 r.1 r.2).1, c.3))
  where
    no : Ok cmd ≡ Err NoPath → ⊥
    no e = absurd (cc)

not_ok : (cmd : VolCmd) (why : Refused) → Ok cmd ≡ Err why → ⊥
not_ok cmd why e = absurd (cc)

as_ok : (m : Maps) (cmd made : VolCmd) → ◌≡◌ {A = Result VolCmd Refused} (Ok cmd) (Ok made) → IsLocal m made → IsLocal m cmd
as_ok m cmd made e l = let s : made ≡ cmd = cc in subst (IsLocal m) s l

pub resolved_may : ResolvedMay
resolved_may (op.Put path bytes) m cmd e =
    by_cases e
    (λ t. absurd (not_ok cmd (TooLarge (length bytes)) t.1))
    (λ t. let r = followed m path (Puts m bytes) cmd t.1 in
    let opened = way_open m path r.0 r.1 r.2 in
    by_cases r.3
    (λ d. absurd (not_ok cmd NameTaken d.2))
    (λ d. by_cases d
    (λ f. as_ok m cmd (PutOver f.0 bytes) f.2 (t.0, f.1.0, f.1.1.1, child_leads m r.0 r.1 f.0 f.1.0 f.1.1 opened.1, f.1.2))
    (λ n. as_ok m cmd (PutNew r.0 r.1 bytes) n.1 (t.0, (opened.0, opened.1, nobody_free m m.next_fid r.0 r.1 n.0)))))
resolved_may (op.Mkdir path) m cmd e =
    let r = followed m path (Makes m) cmd e in
    let opened = way_open m path r.0 r.1 r.2 in
    by_cases r.3
    (λ d. absurd (not_ok cmd NameTaken d.3))
    (λ n. as_ok m cmd (Mkdir r.0 r.1) n.1 (opened.0, opened.1, nobody_free m m.next_fid r.0 r.1 n.0))
resolved_may (op.Move from to) m cmd e =
    let (fid, o, at, reached, rest) = found m from (λ fid. Follows m to (Moves m fid)) cmd e in
    let r = followed m to (Moves m fid) cmd rest in
    let opened = way_open m to r.0 r.1 r.2 in
    by_cases r.3
    (λ b. absurd (not_ok cmd Looped b.1))
    (λ b. by_cases b.1
    (λ t. absurd (not_ok cmd NameTaken t.4))
    (λ f. as_ok m cmd (Move fid r.0 r.1) f.1 (o, at, reached, b.0, (opened.0, opened.1, f.0))))
resolved_may (op.Remove path) m cmd e =
    let (fid, o, at, reached, rest) = found m path (Removes m) cmd e in
    by_cases rest
    (λ t. absurd (not_ok cmd NotEmpty t.6))
    (λ b. as_ok m cmd (Remove fid) b.1 (o, at, reached, b.0))
