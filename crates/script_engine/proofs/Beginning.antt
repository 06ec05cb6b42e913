-- What stands after want of memory: the scene after some first events of a line.
use Rattle.std.proofs.Common.{◌≡◌, ◌+◌, ◌⊎◌, ℕ, suc, false, List, [], ◌∷◌, refl, sym, ap, ◌∙◌, subst, inl, inr, Option, Some, None, Result, Ok, Err, OnErr, bytes_eq}
use Rattle.std.proofs.lemmas.Result.{on_err_weaker}
use Rattle.frs_base.specs.Identifiers.{database_of}
use Rattle.win_order.specs.declared.update.Update.{Update}
use Rattle.vol_state.specs.declared.operation.LocalOp.{LocalOp}
use Rattle.vol_state.specs.declared.operation.Refused.{Refused}
use Rattle.record_db.specs.Records.{Versions}
use Rattle.name_rules.specs.declared.step.Step.{Step as InstallStep}
use Rattle.world_model.specs.World.{World}
use Rattle.world_model.specs.Events.{sends_vector}
use Rattle.world_model.specs.Invariant.{VersionsAreMade}
use Rattle.script_lang.specs.declared.line.Line.{Line}
use Rattle.script_lang.specs.declared.line.Line.TheVariants as lines
use Rattle.script_engine.specs.declared.consumed.Consumed.{Consumed}
use Rattle.script_engine.specs.declared.engine.Engine.{Engine}
use Rattle.script_engine.specs.declared.refusal.Refusal.{Refusal}
use Rattle.script_engine.specs.Begun.{Begins, BeginsAt, BeginsChange, BeginsFiles, BeginsPages, BeginsPull, BeginsRest, ConsumesSome, OperatesOnce}
use Rattle.script_engine.specs.Consuming.{ConsumesOne}
use Rattle.script_engine.specs.Engines.{ConsumedNext, DrainedBy, Operated, Stands, machines_of}
use Rattle.script_engine.specs.Named.{AreNamed}
use Rattle.script_engine.specs.Installing.{Drains, Installs, InstallsSome}
use Rattle.script_engine.specs.Pulling.{Pulls, Rest, TakesFiles, TakesPages, with_given}
use Rattle.script_engine.specs.Pulls.{PullEnds}
use Rattle.script_engine.specs.Scene.{IsNamed, Scene, in_world}
use Rattle.script_engine.specs.Standing.{MachinesStand}
use Rattle.script_engine.proofs.Listed.{page_some}
use Rattle.script_engine.proofs.Spoken.{place_held, place_is}

-- ---- engines

-- where names and machines stay, an engine stands for the same
pub still : (old new : Engine) (s : Scene) → Stands old s → new.names.items ≡ old.names.items → machines_of new ≡ machines_of old → Stands new s
still old new s h names machines = record {
  names = names ∙ h.names;
  formed = subst AreNamed (sym names) h.formed;
  machines = subst (λ ms. MachinesStand ms s) (sym machines) h.machines;
}

-- what holds holds after an error
pub on_err : {T E P : Type 0} (r : Result T E) → P → OnErr r P
on_err (Ok x) p = tt
on_err (Err e) p = p

-- the database of the name at a place
pub named_held : (e : Engine) (s : Scene) (name : List ℕ) (at : ℕ) → Stands e s → place_held e name ≡ Some at → IsNamed s name (database_of (at + 1))
named_held e s name at h found = (at, sym (place_is e s name h) ∙ found, refl)

-- ---- local operations and the journal

-- what came of an operation was begun
pub operation_begun : (s : Scene) (name : List ℕ) (d : ℕ) (operation : LocalOp) (outcome : Result ℕ Refused) (w : World) → IsNamed s name d → Operated s.world d operation outcome w → BeginsAt s name (λ d w. OperatesOnce s.world d operation w) (in_world s w)
operation_begun s name d operation (Ok usn) w named (cmd, resolves, step, is) = inr (d, w, named, (cmd, resolves, step), refl)
operation_begun s name d operation (Err why) w named (resolves, same) = inl (ap (in_world s) same)

-- what came of the next record was begun
pub next_begun : (s : Scene) (name : List ℕ) (d moment : ℕ) (outcome : Result (Option Consumed) Refusal) (w : World) → IsNamed s name d → ConsumedNext s.world d moment outcome w
    → BeginsAt s name (λ d w. (c : Consumed) × ConsumesOne s.world d moment c w) (in_world s w)
next_begun s name d moment (Ok None) w named (end, same) = inl (ap (in_world s) same)
next_begun s name d moment (Ok (Some c)) w named one = inr (d, w, named, (c, one), refl)
next_begun s name d moment (Err why) w named (count, wide, is, same) = inl (ap (in_world s) same)

-- a put that was refused began nothing
pub put_refused : (s : Scene) (name : List ℕ) (d : ℕ) (operation : LocalOp) (moment : ℕ) (why : Refused) (w : World) → Operated s.world d operation (Err why) w → BeginsAt s name (λ d w. BeginsChange s.world d operation moment w) (in_world s w)
put_refused s name d operation moment why w (resolves, same) = inl (ap (in_world s) same)

-- a put and some records behind it
pub change_begun : (s : Scene) (name : List ℕ) (d : ℕ) (operation : LocalOp) (moment usn : ℕ) (put : World) (w : World) → IsNamed s name d → Operated s.world d operation (Ok usn) put
    → (done : List Consumed) × ConsumesSome put d moment done w → BeginsAt s name (λ d w. BeginsChange s.world d operation moment w) (in_world s w)
change_begun s name d operation moment usn put w named (cmd, resolves, step, is) (done, some) = inr (d, w, named, (put, done, (cmd, resolves, step), some), refl)

-- ---- pulls

-- pages that were treated, all or up to one that was refused
pub pages_begun : (w : World) (p e : ℕ) (us listed : List Update) (taken : ℕ) (why : Option Refusal) (new : World) → TakesPages w p e us listed taken why new → BeginsPages w p e us new
pages_begun w p e [] listed taken why new (a, b, c, is) = (0, [], 0, (refl, refl, refl, is))
pages_begun w p e (u ∷ us) listed taken why new (inl (never, t)) = let (n, first, count, begun) = pages_begun w p e us listed taken why new t in (suc n, first, count, inl (never, begun))
pages_begun w p e (u ∷ us) listed taken why new (inr (inl (wanted, file, more, is, t))) =
    let (n, first, count, begun) = pages_begun w p e us more taken why new t in (suc n, u ∷ first, count, inr (inl (wanted, file, first, refl, begun)))
pages_begun w p e (u ∷ us) listed taken why new (inr (inr (inl (folder, mid, others, takes, t, is)))) =
    let (n, first, count, begun) = pages_begun mid p e us listed others why new t in (suc n, first, count + 1, inr (inr (inl (folder, mid, count, takes, begun, refl))))
pages_begun w p e (u ∷ us) listed taken why new (inr (inr (inr (folder, count, much, is, a, b, c)))) = (0, [], 0, (refl, refl, refl, is))

pub files_begun : (s : Scene) (p e : ℕ) (us : List Update) (taken : ℕ) (why : Option Refusal) (new : Scene) → TakesFiles s p e us taken why new → BeginsFiles s p e us new
files_begun s p e [] taken why new (a, b, is) = (0, 0, (refl, refl, is))
files_begun s p e (u ∷ us) taken why new (inl (never, t)) = let (n, count, begun) = files_begun s p e us taken why new t in (suc n, count, inl (never, begun))
files_begun s p e (u ∷ us) taken why new (inr (inl (wanted, usn, last, a, b, is))) = (0, 0, (refl, refl, is))
files_begun s p e (u ∷ us) taken why new (inr (inr (inl (v, given, mid, others, wanted, same, file, gives, takes, t, is)))) =
    let (n, count, begun) = files_begun (with_given s p v given mid) p e us others why new t in (suc n, count + 1, inr (inr (inl (v, given, mid, count, wanted, same, file, gives, takes, begun, refl))))
files_begun s p e (u ∷ us) taken why new (inr (inr (inr (v, count, wanted, same, file, much, is, a, b)))) = (0, 0, (refl, refl, is))

-- the vector alone
pub sent_begun : (s : Scene) (p e : ℕ) → VersionsAreMade s.world → BeginsPull s p e (in_world s (sends_vector s.world e))
sent_begun s p e made = let (page, asked) = page_some s.world p e made in (sends_vector s.world e, page, refl, asked, inl (sends_vector s.world e, (0, [], 0, (refl, refl, refl, refl)), refl))

-- all pages and what is begun behind them
rest_begun : (s : Scene) (p e : ℕ) (versions : Versions) (listed : List Update) (fetched : ℕ) (why : Option Refusal) (new : Scene) → Rest p e versions listed fetched s why new → BeginsRest s p e versions listed new
rest_begun s p e versions listed fetched why new (Some refused, last, files, (is, same)) = subst (BeginsRest s p e versions listed) (sym same) (inl (files_begun s p e listed fetched (Some refused) last files))
rest_begun s p e versions listed fetched why new (None, last, files, (w, inl (fits, step, none), is)) = inr (fetched, last, w, files, inl (fits, step, refl), is)
rest_begun s p e versions listed fetched why new (None, last, files, (w, inr (count, much, some, same), is)) =
    subst (BeginsRest s p e versions listed) (sym (is ∙ ap (in_world last) same)) (inl (files_begun s p e listed fetched None last files))

-- a pull that ended, or was refused on the way
pull_begun : (s : Scene) (p e taken : ℕ) (why : Option Refusal) (new : Scene) → Pulls s p e taken why new → BeginsPull s p e new
pull_begun s p e taken why new (sent, page, listed, at_once, fetched, Some first, mid, step, asked, pages, (is, same), count) =
    (sent, page, step, asked, inl (mid, pages_begun sent p e page listed at_once (Some first) mid pages, same))
pull_begun s p e taken why new (sent, page, listed, at_once, fetched, None, mid, step, asked, pages, on, count) =
    (sent, page, step, asked, inr (listed, at_once, mid, pages, rest_begun (in_world s mid) p e (s.world.at e).known listed fetched why new on))

pub ended_begun : (s : Scene) (p e : ℕ) (outcome : Result ℕ Refusal) (new : Scene) → PullEnds s p e outcome new → BeginsPull s p e new
ended_begun s p e (Ok taken) new pulls = pull_begun s p e taken None new pulls
ended_begun s p e (Err why) new (taken, pulls) = pull_begun s p e taken (Some why) new pulls

-- a pull of another member
pub pull_line_begun : (s : Scene) (name other : List ℕ) (p e : ℕ) (new : Scene) → IsNamed s name p → IsNamed s other e → bytes_eq name other ≡ false → (new ≡ s) ⊎ BeginsPull s p e new → Begins s (lines.Pull name other) new
pull_line_begun s name other p e new named there apart (inl same) = inl same
pull_line_begun s name other p e new named there apart (inr begun) = inr (p, e, named, there, apart, begun)

-- ---- the installer

-- what came of a step was begun
pub step_begun : (s : Scene) (name : List ℕ) (d : ℕ) (outcome : Result (Option InstallStep) Refusal) (w : World) → IsNamed s name d → Installs s d outcome w
    → BeginsAt s name (λ d w. (step : InstallStep) × Installs s d (Ok (Some step)) w) (in_world s w)
step_begun s name d (Ok None) w named (none, same) = inl (ap (in_world s) same)
step_begun s name d (Ok (Some step)) w named installs = inr (d, w, named, (step, installs), refl)
step_begun s name d (Err why) w named (stopped, same) = inl (ap (in_world s) same)

-- all steps but the refused one were begun
pub drain_begun : (s : Scene) (d : ℕ) (steps : List InstallStep) (why : Option Refusal) (new : World) → Drains s d steps why new → InstallsSome s d steps new
drain_begun s d [] None new (none, same) = same
drain_begun s d [] (Some why) new (stopped, same) = same
drain_begun s d (step ∷ steps) why new (mid, installs, drains) = (mid, installs, drain_begun (in_world s mid) d steps why new drains)

pub drained_begun : (s : Scene) (name : List ℕ) (d : ℕ) (outcome : Result ℕ Refusal) (w : World) → IsNamed s name d → DrainedBy s d outcome w
    → BeginsAt s name (λ d w. (steps : List InstallStep) × InstallsSome s d steps w) (in_world s w)
drained_begun s name d (Ok many) w named (steps, drains, count) = inr (d, w, named, (steps, drain_begun s d steps None w drains), refl)
drained_begun s name d (Err why) w named (steps, drains) = inr (d, w, named, (steps, drain_begun s d steps (Some why) w drains), refl)

-- ---- lines

-- of every line nothing may be done
pub nothing_begun : (s : Scene) (line : Line) → Begins s line s
nothing_begun s (lines.Member name kind) = refl
nothing_begun s (lines.Put name path bytes) = inl refl
nothing_begun s (lines.Fill name path count) = inl refl
nothing_begun s (lines.Mkdir name path) = inl refl
nothing_begun s (lines.Move name from to) = inl refl
nothing_begun s (lines.Remove name path) = inl refl
nothing_begun s (lines.Consume name moment) = inl refl
nothing_begun s (lines.Change name path moment) = inl refl
nothing_begun s (lines.Pull name other) = inl refl
nothing_begun s (lines.Install name) = inl refl
nothing_begun s (lines.Drain name) = inl refl
nothing_begun s (lines.Show name) = refl
nothing_begun s (lines.Tree name) = refl
nothing_begun s (lines.Sums name) = refl
nothing_begun s (lines.Count name) = refl

-- what was begun at a member is begun of its line
pub line_begun : {T E : Type 0} (s : Scene) (line given : Line) (Began : Scene → Type 0) (r : Result T E) (after : Engine) → line ≡ given → ((new : Scene) → Began new → Begins s line new)
    → OnErr r ((new : Scene) × Began new × Stands after new) → OnErr r ((new : Scene) × Begins s given new × Stands after new)
line_begun s line given Began r after same begins h = on_err_weaker r (λ (new, began, on). (new, subst (λ l. Begins s l new) same (begins new began), on)) h
