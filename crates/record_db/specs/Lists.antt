-- Records as a list in order of their files.
use Rattle.std.specs.Prelude.{◌≡◌, true, false, List, [], ◌∷◌, Option, Some, None, if◌then◌else◌}
use Rattle.std.specs.List.{AllByRecursion}
use Rattle.frs_base.specs.Options.{In}
use Rattle.frs_base.specs.Versions.{same_gvsn, same_uid, uid_lt}
use Rattle.frs_base.specs.declared.version.Uid.{Uid}
use Rattle.win_order.specs.declared.update.Update.{Update}

-- in order of their UIDs, each once
abbrev pub IsRisingBy : {X : Type 0} → (X → Uid) → List X → Type 0
IsRisingBy uid_of [] = Unit {0}
IsRisingBy uid_of (x ∷ xs) = AllByRecursion (λ y. uid_lt (uid_of x) (uid_of y) ≡ true) xs × IsRisingBy uid_of xs

-- in order of their files, each file once
abbrev pub IsRising : List Update → Type 0
IsRising = IsRisingBy (λ u. u.uid)

-- each of a version of its own
abbrev pub AreDistinct : List Update → Type 0
AreDistinct [] = Unit {0}
AreDistinct (u ∷ us) = AllByRecursion (λ v. same_gvsn u.gvsn v.gvsn ≡ false) us × AreDistinct us

-- the list has just these updates, in order of their files
pub record Lists (These : Update → Type 0) (list : List Update) : Type 0 where
  pub rising : IsRising list
  pub each : (u : Update) → In u list → These u
  pub whole : (u : Update) → These u → In u list

-- an update takes the place of the one of its file, or its place in the order
abbrev pub put_record : Update → List Update → List Update
put_record u [] = u ∷ []
put_record u (r ∷ rs) =
    if uid_lt r.uid u.uid then r ∷ put_record u rs
    else (if same_uid r.uid u.uid then u ∷ rs else u ∷ r ∷ rs)

-- so does an update, if there is one
abbrev pub put_any : Option Update → List Update → List Update
put_any None records = records
put_any (Some u) records = put_record u records
