-- Paths over the maps of a volume: what each operation by path comes to, its command or the first refusal.
use Rattle.std.specs.Prelude.{◌≡◌, ◌≢◌, ◌⊎◌, ◌≤◌, ◌<◌, ℕ, true, false, List, [], ◌∷◌, ◌++◌, length, Some, Result, Ok, Err}
use Rattle.frs_base.specs.Names.{matches}
use Rattle.vol_state.specs.declared.object.Object.{Object}
use Rattle.vol_state.specs.declared.operation.LocalOp.{LocalOp}
use Rattle.vol_state.specs.declared.operation.LocalOp.TheVariants as op
use Rattle.vol_state.specs.declared.operation.Refused.{Refused}
use Rattle.vol_state.specs.declared.operation.Refused.TheVariants.{TooLarge, NoPath, NotDirectory, Looped, NameTaken, NotEmpty}
use Rattle.vol_state.specs.declared.command.VolCmd.{VolCmd}
use Rattle.vol_state.specs.declared.command.VolCmd.TheVariants.{PutNew, PutOver, Mkdir, Move, Remove}
use Rattle.vol_state.specs.Places.{is_directory}
use Rattle.vol_state.specs.Paths.{largest, resolve}
use Rattle.vol_state.specs.State.{State}
use Rattle.vol_state.specs.Valid.{IsVolume}
use Rattle.vol_state.specs.Maps.{Maps, Stands}
use Rattle.vol_state.specs.Tables.{IsAt, IsBeneath, IsFree, IsEmpty, IsLocal}

-- ---- names in a directory

-- the object with this number stands in the directory under a matching name
abbrev pub IsChild : Maps → ℕ → List ℕ → ℕ → Object → Type 0
IsChild m parent name fid o = (p : ℕ × List ℕ) × IsAt m fid o × (o.place ≡ Some p) × (p.0 ≡ parent) × (matches p.1 name ≡ true)

-- this directory stands there under a matching name
abbrev pub HasDirectory : Maps → ℕ → List ℕ → ℕ → Type 0
HasDirectory m parent name fid = (o : Object) × IsChild m parent name fid o × (is_directory o.kind ≡ true)

-- this file does
abbrev pub HasFile : Maps → ℕ → List ℕ → ℕ → Type 0
HasFile m parent name fid = (o : Object) × IsChild m parent name fid o × (is_directory o.kind ≡ false)

-- nobody does
abbrev pub HasNobody : Maps → ℕ → List ℕ → Type 0
HasNobody m parent name = (fid : ℕ) (o : Object) → IsChild m parent name fid o → ⊥

-- ---- paths

-- the components lead from one directory to another: each names a directory in the one before it
abbrev pub Goes : Maps → ℕ → List (List ℕ) → ℕ → Type 0
Goes m from [] to = from ≡ to
Goes m from (name ∷ rest) to = (fid : ℕ) × HasDirectory m from name fid × Goes m fid rest to

-- all components but the last lead from the root to this directory, and the last is this name
abbrev pub IsWay : Maps → List (List ℕ) → ℕ → List ℕ → Type 0
IsWay m path parent name = (above : List (List ℕ)) × (path ≡ above ++ name ∷ []) × Goes m 0 above parent

-- why a component leads to no directory: nothing has the name there, or a file has it
abbrev pub Stops : Maps → ℕ → List ℕ → Refused → Type 0
Stops m parent name why =
    (HasNobody m parent name × (why ≡ NoPath))
    ⊎ ((fid : ℕ) × HasFile m parent name fid × (why ≡ NotDirectory))

-- why a path leads to no directory: it has no component, or stops at the first that names none and has another behind it
abbrev pub IsNoWay : Maps → List (List ℕ) → Refused → Type 0
IsNoWay m path why =
    ((path ≡ []) × (why ≡ NoPath))
    ⊎ ((above : List (List ℕ)) × (name next : List ℕ) × (rest : List (List ℕ)) × (parent : ℕ)
    × (path ≡ above ++ name ∷ next ∷ rest) × Goes m 0 above parent × Stops m parent name why)

-- the answer is the path's refusal, or what comes next at its directory and last name
abbrev pub Follows : Maps → List (List ℕ) → (ℕ → List ℕ → Result VolCmd Refused → Type 0) → Result VolCmd Refused → Type 0
Follows m path next answer =
    ((why : Refused) × IsNoWay m path why × (answer ≡ Err why))
    ⊎ ((parent : ℕ) × (name : List ℕ) × IsWay m path parent name × next parent name answer)

-- the answer is the path's refusal, or what comes next for the object that it leads to
abbrev pub Finds : Maps → List (List ℕ) → (ℕ → Result VolCmd Refused → Type 0) → Result VolCmd Refused → Type 0
Finds m path next = Follows m path (λ parent name answer.
    (HasNobody m parent name × (answer ≡ Err NoPath))
    ⊎ ((fid : ℕ) × (o : Object) × IsChild m parent name fid o × next fid answer))

-- ---- the table

-- put there: a directory refuses, a file is overwritten, else a file is made
abbrev pub Puts : Maps → List ℕ → ℕ → List ℕ → Result VolCmd Refused → Type 0
Puts m bytes parent name answer =
    ((fid : ℕ) × HasDirectory m parent name fid × (answer ≡ Err NameTaken))
    ⊎ (((fid : ℕ) × HasFile m parent name fid × (answer ≡ Ok (PutOver fid bytes)))
    ⊎ (HasNobody m parent name × (answer ≡ Ok (PutNew parent name bytes))))

-- mkdir there: whoever has the name refuses
abbrev pub Makes : Maps → ℕ → List ℕ → Result VolCmd Refused → Type 0
Makes m parent name answer =
    ((fid : ℕ) × (o : Object) × IsChild m parent name fid o × (answer ≡ Err NameTaken))
    ⊎ (HasNobody m parent name × (answer ≡ Ok (Mkdir parent name)))

-- move it there: not into or beneath itself, then not onto another's name
abbrev pub Moves : Maps → ℕ → ℕ → List ℕ → Result VolCmd Refused → Type 0
Moves m fid parent name answer =
    (IsBeneath m fid parent × (answer ≡ Err Looped))
    ⊎ ((IsBeneath m fid parent → ⊥)
    × (((other : ℕ) × (o : Object) × IsChild m parent name other o × (other ≢ fid) × (answer ≡ Err NameTaken))
    ⊎ (IsFree m fid parent name × (answer ≡ Ok (Move fid parent name)))))

-- remove it: not where something stands in it
abbrev pub Removes : Maps → ℕ → Result VolCmd Refused → Type 0
Removes m fid answer =
    ((other : ℕ) × (o : Object) × (p : ℕ × List ℕ) × IsAt m other o × (o.place ≡ Some p) × (p.0 ≡ fid) × (answer ≡ Err NotEmpty))
    ⊎ (IsEmpty m fid × (answer ≡ Ok (Remove fid)))

-- what an operation comes to: the first refusal of its row, or its command
abbrev pub Resolves : Maps → LocalOp → Result VolCmd Refused → Type 0
Resolves m (op.Put path bytes) answer =
    ((largest < length bytes) × (answer ≡ Err (TooLarge (length bytes))))
    ⊎ ((length bytes ≤ largest) × Follows m path (Puts m bytes) answer)
Resolves m (op.Mkdir path) answer = Follows m path (Makes m) answer
Resolves m (op.Move from to) answer = Finds m from (λ fid. Follows m to (Moves m fid)) answer
Resolves m (op.Remove path) answer = Finds m path (Removes m) answer

-- ---- laws

-- what an operation comes to by the lists, it comes to over the maps for which they stand
abbrev pub ListsResolve : Type 0
ListsResolve = (operation : LocalOp) (v : State) (m : Maps) → IsVolume v → Stands v m → Resolves m operation (resolve v.objects operation)

-- an operation comes to one thing
abbrev pub ResolvesToOne : Type 0
ResolvesToOne = (operation : LocalOp) (v : State) (m : Maps) (a b : Result VolCmd Refused) → IsVolume v → Stands v m → Resolves m operation a → Resolves m operation b → a ≡ b

-- a command that an operation comes to may be done
abbrev pub ResolvedMay : Type 0
ResolvedMay = (operation : LocalOp) (m : Maps) (cmd : VolCmd) → Resolves m operation (Ok cmd) → IsLocal m cmd
