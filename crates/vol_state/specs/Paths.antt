-- The table of local operations: what a path leads to, and the first refusal or the command.
use Rattle.std.specs.Prelude.{◌==◌, ◌-◌, nat_lt, slice_index_or, ℕ, if◌then◌else◌, List, [], ◌∷◌, length, Option, Some, None, Result, Ok, Err}
use Rattle.vol_state.specs.declared.object.Object.{Object}
use Rattle.vol_state.specs.declared.operation.LocalOp.{LocalOp}
use Rattle.vol_state.specs.declared.operation.LocalOp.TheVariants as op
use Rattle.vol_state.specs.declared.operation.Refused.{Refused}
use Rattle.vol_state.specs.declared.operation.Refused.TheVariants.{TooLarge, NoPath, NotDirectory, Looped, NameTaken, NotEmpty}
use Rattle.vol_state.specs.declared.command.VolCmd.{VolCmd}
use Rattle.vol_state.specs.declared.command.VolCmd.TheVariants.{PutNew, PutOver, Mkdir, Move, Remove}
use Rattle.vol_state.specs.Places.{is_directory, child, has_children, is_beneath}

-- the first refusal, or what comes next
abbrev pub then_ : {A B : Type 0} → Result A Refused → (A → Result B Refused) → Result B Refused
then_ (Ok x) next = next x
then_ (Err e) next = Err e

-- an answer, seen through f
abbrev pub with_ok : {A B : Type 0} → (A → B) → Result A Refused → Result B Refused
with_ok f (Ok x) = Ok (f x)
with_ok f (Err e) = Err e

-- the object, if there is one
abbrev pub present : Option Object → Result Object Refused
present None = Err NoPath
present (Some o) = Ok o

-- the number of the directory, if it is one
abbrev pub entered : Option Object → Result ℕ Refused
entered None = Err NoPath
entered (Some o) = if is_directory o.kind then Ok o.fid else Err NotDirectory

-- the directory in which the last component of name ∷ rest stands, from the directory at on
abbrev pub walk : List Object → ℕ → List ℕ → List (List ℕ) → Result ℕ Refused
walk objects at name [] = Ok at
walk objects at name (next ∷ rest) = then_ (entered (child objects at name)) (λ fid. walk objects fid next rest)

-- the directory in which a path's last component stands, from the root on
abbrev pub home : List Object → List (List ℕ) → Result ℕ Refused
home objects [] = Err NoPath
home objects (name ∷ rest) = walk objects 0 name rest

-- the last component
abbrev pub last_name : List (List ℕ) → List ℕ
last_name path = slice_index_or path (length path - 1) []

-- the object that a path leads to
abbrev pub target : List Object → List (List ℕ) → Result Object Refused
target objects path = then_ (home objects path) (λ at. present (child objects at (last_name path)))

-- the most bytes that a local put takes
abbrev pub largest : ℕ
largest = 1048576

-- put onto what stands there: a new file, or new contents
abbrev pub put_over : List ℕ → ℕ → List ℕ → Option Object → Result VolCmd Refused
put_over bytes at name None = Ok (PutNew at name bytes)
put_over bytes at name (Some o) = if is_directory o.kind then Err NameTaken else Ok (PutOver o.fid bytes)

-- put path, contents
abbrev pub resolve_put : List Object → List (List ℕ) → List ℕ → Result VolCmd Refused
resolve_put objects path bytes =
    if nat_lt largest (length bytes) then Err (TooLarge (length bytes))
    else then_ (home objects path) (λ at. put_over bytes at (last_name path) (child objects at (last_name path)))

-- a directory where nothing stands
abbrev pub make_over : ℕ → List ℕ → Option Object → Result VolCmd Refused
make_over at name None = Ok (Mkdir at name)
make_over at name (Some o) = Err NameTaken

-- mkdir path
abbrev pub resolve_mkdir : List Object → List (List ℕ) → Result VolCmd Refused
resolve_mkdir objects path = then_ (home objects path) (λ at. make_over at (last_name path) (child objects at (last_name path)))

-- a move to where nothing stands, or the moved object itself
abbrev pub move_over : ℕ → ℕ → List ℕ → Option Object → Result VolCmd Refused
move_over fid at name None = Ok (Move fid at name)
move_over fid at name (Some o) = if o.fid == fid then Ok (Move fid at name) else Err NameTaken

-- move from, to
abbrev pub resolve_move : List Object → List (List ℕ) → List (List ℕ) → Result VolCmd Refused
resolve_move objects from to =
    then_ (target objects from) (λ o. then_ (home objects to) (λ at.
    if is_beneath objects o.fid at then Err Looped
    else move_over o.fid at (last_name to) (child objects at (last_name to))))

-- remove path
abbrev pub resolve_remove : List Object → List (List ℕ) → Result VolCmd Refused
resolve_remove objects path = then_ (target objects path) (λ o. if has_children objects o.fid then Err NotEmpty else Ok (Remove o.fid))

-- each row of the table: the first refusal, or the command
abbrev pub resolve : List Object → LocalOp → Result VolCmd Refused
resolve objects (op.Put path bytes) = resolve_put objects path bytes
resolve objects (op.Mkdir path) = resolve_mkdir objects path
resolve objects (op.Move from to) = resolve_move objects from to
resolve objects (op.Remove path) = resolve_remove objects path

-- the first refusal alone
abbrev pub check : List Object → LocalOp → Result (Unit {0}) Refused
check objects op = with_ok (λ c. tt) (resolve objects op)
