-- What a line has done when memory runs out: some of its events, from the first on.
use Rattle.std.specs.Prelude.{◌≡◌, ◌⊎◌, ℕ, false, List, [], ◌∷◌, None, Some, Ok, bytes_eq, take}
use Rattle.win_order.specs.declared.update.Update.{Update}
use Rattle.vol_state.specs.declared.command.VolCmd.{VolCmd}
use Rattle.vol_state.specs.declared.operation.LocalOp.{LocalOp}
use Rattle.vol_state.specs.declared.operation.LocalOp.TheVariants as op
use Rattle.vol_state.specs.Ways.{Resolves}
use Rattle.record_db.specs.Records.{Versions}
use Rattle.script_lang.specs.declared.line.Line.{Line}
use Rattle.script_lang.specs.declared.line.Line.TheVariants as lines
use Rattle.name_rules.specs.declared.step.Step.{Step as InstallStep}
use Rattle.world_model.specs.World.{World}
use Rattle.world_model.specs.Events.{Step, Local as LocalEvent, SendVector}
use Rattle.script_engine.specs.declared.consumed.Consumed.{Consumed}
use Rattle.script_engine.specs.Scene.{Scene, IsNamed, in_world}
use Rattle.script_engine.specs.Consuming.{ConsumesOne}
use Rattle.script_engine.specs.Installing.{Installs, InstallsSome}
use Rattle.script_engine.specs.Pulling.{Ends, IsAsked, TakesFiles, TakesPages}
use Rattle.script_engine.specs.Text.{filled}

-- ---- events of one kind

-- a local operation comes to its command, which is done
abbrev pub OperatesOnce : World → ℕ → LocalOp → World → Type 0
OperatesOnce w d operation new = (cmd : VolCmd) × Resolves (w.at d).volume operation (Ok cmd) × Step w d (LocalEvent cmd) new

-- the next records are consumed at a moment, one after the other
abbrev pub ConsumesSome : World → ℕ → ℕ → List Consumed → World → Type 0
ConsumesSome w d moment [] new = new ≡ w
ConsumesSome w d moment (first ∷ rest) new = (mid : World) × ConsumesOne w d moment first mid × ConsumesSome mid d moment rest new

-- the first updates of the pages, if only none, are treated
abbrev pub BeginsPages : World → ℕ → ℕ → List Update → World → Type 0
BeginsPages w puller server page new = (n : ℕ) × (listed : List Update) × (taken : ℕ) × TakesPages w puller server (take n page) listed taken None new

-- the first of the listed files, if only none, are treated
abbrev pub BeginsFiles : Scene → ℕ → ℕ → List Update → Scene → Type 0
BeginsFiles s puller server files new = (n : ℕ) × (taken : ℕ) × TakesFiles s puller server (take n files) taken None new

-- ---- lines

-- empty contents are put, and the next records, if only none, are consumed
abbrev pub BeginsChange : World → ℕ → LocalOp → ℕ → World → Type 0
BeginsChange w d operation moment new = (put : World) × (done : List Consumed) × OperatesOnce w d operation put × ConsumesSome put d moment done new

-- behind the pages come some first files, or all of them and the end
abbrev pub BeginsRest : Scene → ℕ → ℕ → Versions → List Update → Scene → Type 0
BeginsRest s puller server versions listed new =
    BeginsFiles s puller server listed new
    ⊎ ((taken : ℕ) × (last : Scene) × (w : World) × TakesFiles s puller server listed taken None last × Ends last.world puller versions None w × (new ≡ in_world last w))

-- the server's vector is sent, then come some first updates of the pages, or all of them and what begins behind them
abbrev pub BeginsPull : Scene → ℕ → ℕ → Scene → Type 0
BeginsPull s puller server new =
    (sent : World) × (page : List Update) × Step s.world server SendVector sent × IsAsked s.world puller server page
    × (((w : World) × BeginsPages sent puller server page w × (new ≡ in_world s w))
    ⊎ ((listed : List Update) × (taken : ℕ) × (mid : World) × TakesPages sent puller server page listed taken None mid
    × BeginsRest (in_world s mid) puller server (s.world.at server).known listed new))

-- nothing was done, or this at the member with the name
abbrev pub BeginsAt : Scene → List ℕ → (ℕ → World → Type 0) → Scene → Type 0
BeginsAt s name Did new = (new ≡ s) ⊎ ((d : ℕ) × (w : World) × IsNamed s name d × Did d w × (new ≡ in_world s w))

-- some first events of the line, if only none, lead to this scene; lines that make a member or print have none
abbrev pub Begins : Scene → Line → Scene → Type 0
Begins s (lines.Member name kind) new = new ≡ s
Begins s (lines.Put name path bytes) new = BeginsAt s name (λ d w. OperatesOnce s.world d (op.Put path bytes) w) new
Begins s (lines.Fill name path count) new = BeginsAt s name (λ d w. OperatesOnce s.world d (op.Put path (filled count)) w) new
Begins s (lines.Mkdir name path) new = BeginsAt s name (λ d w. OperatesOnce s.world d (op.Mkdir path) w) new
Begins s (lines.Move name from to) new = BeginsAt s name (λ d w. OperatesOnce s.world d (op.Move from to) w) new
Begins s (lines.Remove name path) new = BeginsAt s name (λ d w. OperatesOnce s.world d (op.Remove path) w) new
Begins s (lines.Consume name moment) new = BeginsAt s name (λ d w. (c : Consumed) × ConsumesOne s.world d moment c w) new
Begins s (lines.Change name path moment) new = BeginsAt s name (λ d w. BeginsChange s.world d (op.Put path []) moment w) new
Begins s (lines.Pull name other) new =
    (new ≡ s) ⊎ ((puller : ℕ) × (server : ℕ) × IsNamed s name puller × IsNamed s other server × (bytes_eq name other ≡ false) × BeginsPull s puller server new)
Begins s (lines.Install name) new = BeginsAt s name (λ d w. (step : InstallStep) × Installs s d (Ok (Some step)) w) new
Begins s (lines.Drain name) new = BeginsAt s name (λ d w. (steps : List InstallStep) × InstallsSome s d steps w) new
Begins s (lines.Show name) new = new ≡ s
Begins s (lines.Tree name) new = new ≡ s
Begins s (lines.Sums name) new = new ≡ s
Begins s (lines.Count name) new = new ≡ s
