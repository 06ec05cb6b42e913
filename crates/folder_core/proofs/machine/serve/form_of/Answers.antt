use Rattle.std.proofs.Common.{◌≡◌, ◌∙◌, ℕ, List, refl, ap, sym}
use Rattle.sha1.specs.Sha1.{sha1}
use Rattle.marshal_form.specs.Local.{local}
use Rattle.marshal_form.specs.Spelling.{spelling}
use Rattle.frs_base.specs.declared.sum.Sum.{Sum}
use Rattle.vol_state.specs.Sums.{content_sum, file_sum}
use Rattle.folder_core.proofs.machine.serve.form_of.Goals as goal

-- what the sum of a file is
sum_is : (bytes : List ℕ) → (file_sum bytes).0 ≡ sha1 (spelling local bytes)
unfolding file_sum
sum_is bytes = refl

pub of_local-requires : goal.of_local-requires
of_local-requires c =
    ap (λ (s : Sum). s.0) (c.requires.sum ∙ (λ i. content_sum (c.in-File.is i) (sym c.as_slice-contents.ensures i)))
    ∙ sum_is c.as_slice-contents.result.now
