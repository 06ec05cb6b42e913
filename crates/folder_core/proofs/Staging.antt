-- What is staged, and its sums.
use Rattle.std.proofs.Common.{◌≡◌, ℕ, Bool, true, false, cond, List, Option, Some, None, refl, sym, ap, ◌∙◌}
use Rattle.std.specs.Prelude.{find, option_map}
use Rattle.frs_base.specs.Versions.{same_uid}
use Rattle.frs_base.specs.declared.version.Uid.{Uid}
use Rattle.win_order.specs.declared.update.Update.{Update}
use Rattle.record_db.specs.declared.staged.Staged.{Staged}
use Rattle.record_db.specs.Staged.{staged_by, staged_with, with_uid}
use Rattle.record_db.specs.State.{BookState, form_of}
use Rattle.record_db.proofs.Forms.{found_with}
use Rattle.world_model.specs.Events.{unstaged_by}
use Rattle.folder_core.specs.Notes.{form_sum}
use Rattle.folder_core.specs.Sound.{HasForms, IsStageable, MayBeStaged, staged_sums}

-- what is staged of each file once another form is of one
form_after : (book new : BookState) (uid : Uid) (form : Option (List ℕ)) → new.staged ≡ staged_with uid form book.staged → (id : Uid) → form_of new id ≡ with_uid (form_of book) uid form id
form_after book new uid form is id = ap (λ (l : List Staged). option_map (λ s. s.form) (find (λ s. same_uid s.uid id) l)) is ∙ found_with uid form book.staged id

-- ---- sums

-- the sums of forms, of which another is staged at one file
map_with : (forms : Uid → Option (List ℕ)) (uid : Uid) (form : Option (List ℕ)) (id : Uid)
    → option_map form_sum (with_uid forms uid form id) ≡ with_uid (λ j. option_map form_sum (forms j)) uid (option_map form_sum form) id
map_with forms uid form id = by (same_uid id uid)
  where
    by : (b : Bool) → option_map form_sum (cond b form (forms id)) ≡ cond b (option_map form_sum form) (option_map form_sum (forms id))
    by true = refl
    by false = refl

-- another form is staged, or none any more
pub sums_with : (book new : BookState) (uid : Uid) (form : Option (List ℕ)) → new.staged ≡ staged_with uid form book.staged
    → staged_sums new ≡ with_uid (staged_sums book) uid (option_map form_sum form)
sums_with book new uid form is = λ i. λ id. (ap (λ f. option_map form_sum f) (form_after book new uid form is id) ∙ map_with (form_of book) uid form id) i

-- the same is staged
pub sums_stay : (book new : BookState) → new.staged ≡ book.staged → staged_sums new ≡ staged_sums book
sums_stay book new is = ap (λ (l : List Staged). λ id. option_map form_sum (option_map (λ s. s.form) (find (λ s. same_uid s.uid id) l))) is

-- where an update was made, nothing is staged of its file
pub sums_made : (book new : BookState) (made : Option Update) → new.staged ≡ staged_by made None book.staged → staged_sums new ≡ unstaged_by made (staged_sums book)
sums_made book new None is = sums_stay book new is
sums_made book new (Some u) is = sums_with book new u.uid None is

-- ---- forms

none_some : {T : Type 0} (x : T) → None ≡ Some x → ⊥
none_some x e = cc

pub nothing_staged : MayBeStaged None
nothing_staged form e = absurd (none_some form e)

pub forms_with : (book new : BookState) (uid : Uid) (form : Option (List ℕ)) → new.staged ≡ staged_with uid form book.staged → MayBeStaged form → HasForms book → HasForms new
forms_with book new uid form is fit old id f e = by (same_uid id uid) (sym (form_after book new uid form is id) ∙ e)
  where
    by : (b : Bool) → cond b form (form_of book id) ≡ Some f → IsStageable f
    by true at = fit f at
    by false at = old id f at

pub forms_stay : (book new : BookState) → new.staged ≡ book.staged → HasForms book → HasForms new
forms_stay book new is old id f e = old id f (ap (λ (l : List Staged). option_map (λ s. s.form) (find (λ s. same_uid s.uid id) l)) (sym is) ∙ e)

pub forms_made : (book new : BookState) (made : Option Update) → new.staged ≡ staged_by made None book.staged → HasForms book → HasForms new
forms_made book new None is old = forms_stay book new is old
forms_made book new (Some u) is old = forms_with book new u.uid None is nothing_staged old
