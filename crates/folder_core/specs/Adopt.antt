-- A partner's update is taken.
use Rattle.std.specs.Prelude.{◌≡◌, ◌≢◌, ◌⊎◌, not, ℕ, Bool, true, false, if◌then◌else◌, MatchBool, MatchOption, MatchResult, List, [], ◌∷◌, Option, Some, None, Result, Ok, Err, option_map, unwrap_or}
use Rattle.frs_base.specs.Options.{kept_if}
use Rattle.marshal_form.specs.Local.{IsFirstBadLocal, IsLocalForm}
use Rattle.frs_base.specs.declared.kind.Kind.{Kind}
use Rattle.frs_base.specs.declared.kind.Kind.TheVariants as kind
use Rattle.frs_base.specs.declared.sum.Sum.{Sum}
use Rattle.frs_base.specs.declared.version.Uid.{Uid}
use Rattle.version_vector.specs.Versions.{covers}
use Rattle.win_order.specs.Order.{key_lt, key_of}
use Rattle.win_order.specs.Refusals.{unfit_of}
use Rattle.win_order.specs.declared.update.Update.{Update}
use Rattle.vol_state.specs.State.{object_of}
use Rattle.record_db.specs.declared.command.BookCmd.TheVariants as cmd
use Rattle.name_rules.specs.Recorded.{held_of}
use Rattle.name_rules.specs.Tree.{is_file, kind_of}
use Rattle.folder_core.specs.declared.refusal.Refusal.{Refusal}
use Rattle.folder_core.specs.declared.refusal.Refusal.TheVariants.{Beaten, Doubled, HashDiffers, KindDiffers, MarshalBad, OwnAhead, Unfit}
use Rattle.folder_core.specs.declared.reply.Reply.{Reply}
use Rattle.folder_core.specs.declared.reply.Reply.TheVariants.{Adopted}
use Rattle.folder_core.specs.Machine.{Machine, Refuses, first_of, is_ahead}
use Rattle.folder_core.specs.Notes.{form_sum}
use Rattle.folder_core.specs.Books.{Takes}

-- two kinds are one
abbrev pub same_kind : Kind → Kind → Bool
same_kind kind.File kind.File = true
same_kind kind.File kind.Directory = false
same_kind kind.Directory kind.File = false
same_kind kind.Directory kind.Directory = true

-- it isn't one that a member of this content set takes
abbrev pub unfit : Machine → Update → Option Refusal
unfit m u = option_map Unfit (unfit_of u m.book.set)

-- its version, else that of its UID, is an own one that isn't consumed
abbrev pub own_ahead : Machine → Update → Option Refusal
own_ahead m u =
    if is_ahead m u.gvsn.db u.gvsn.version then Some (OwnAhead u.gvsn.version)
    else (if is_ahead m u.uid.db u.uid.version then Some (OwnAhead u.uid.version) else None)

-- what the member has of a file: its record says the kind, or where none is held its object
abbrev pub kind_at : Machine → Uid → Option Kind
kind_at m uid = first_of (option_map kind_of (held_of m.book.records uid) ∷ option_map (λ o. o.kind) (object_of m.volume uid) ∷ [])

-- it is of the other kind
abbrev pub kind_differs : Machine → Update → Option Refusal
kind_differs m u = option_map KindDiffers (kept_if (λ held. not (same_kind held (kind_of u))) (kind_at m u.uid))

-- the key of the held record isn't smaller
abbrev pub beaten : Machine → Update → Option Refusal
beaten m u = option_map Beaten (kept_if (λ held. not (key_lt held (key_of u))) (option_map key_of (held_of m.book.records u.uid)))

-- its version is covered
abbrev pub doubled : Machine → Update → Option Refusal
doubled m u = if covers m.book.vector u.gvsn then Some (Doubled u.gvsn) else None

-- the first refusal of an update
abbrev pub adopt_refusal : Machine → Update → Option Refusal
adopt_refusal m u = first_of (unfit m u ∷ own_ahead m u ∷ kind_differs m u ∷ beaten m u ∷ doubled m u ∷ [])

-- ---- its form

-- bytes are refused at the first place at which they are no form of a local file, then where their sum isn't the one that is wanted; else they are taken as this
abbrev pub ChecksForm : {T : Type 0} → List ℕ → Sum → T → Result T Refusal → Type 0
ChecksForm form want taken outcome =
    ((at : ℕ) × IsFirstBadLocal form at × (outcome ≡ Err (MarshalBad at)))
    ⊎ ((contents : List ℕ) × IsLocalForm form contents
    × (((form_sum form ≢ want) × (outcome ≡ Err (HashDiffers want (form_sum form)))) ⊎ ((form_sum form ≡ want) × (outcome ≡ Ok taken))))

-- what is staged with an update, or why its form is refused: of a present file its form, where no form is one of no bytes; of all else nothing
abbrev pub Stages : Update → Option (List ℕ) → Result (Option (List ℕ)) Refusal → Type 0
Stages u form staged = MatchBool (is_file u) (ChecksForm (unwrap_or form []) u.hash (Some (unwrap_or form [])) staged) (staged ≡ Ok None)

-- the update is the record of its file, or its form is refused
abbrev pub AnswersForm : Update → Option (List ℕ) → Machine → Reply → Machine → Type 0
AnswersForm u form old reply new =
    (staged : Result (Option (List ℕ)) Refusal) × Stages u form staged
    × MatchResult staged (λ given. Takes (cmd.Adopt u given) Adopted old reply new) (λ why. Refuses why old reply new)

-- the first refusal stands; else the form is looked at
abbrev pub AnswersAdopt : Update → Option (List ℕ) → Machine → Reply → Machine → Type 0
AnswersAdopt u form old reply new =
    MatchOption (adopt_refusal old u) (AnswersForm u form old reply new) (λ why. Refuses why old reply new)
