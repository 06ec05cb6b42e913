use Rattle.std.proofs.Common.{◌-◌, ℕ, List, length, min, drop, take, sym, ap, ◌∙◌}
use Rattle.std.specs.Prelude.{option_copied}
use Rattle.std.proofs.lemmas.List.{drop_min, take_rest}
use Rattle.folder_core.specs.Install.{contents_in}
use Rattle.folder_core.proofs.Installing.{ok_with}
use Rattle.folder_core.proofs.machine.install.contents_in.Goals as goal

pub returns-in-Some : goal.returns-in-Some
returns-in-Some c =
    let l : List ℕ = c.as_slice-form.result.now in
    let behind = ap (λ n. take (length l - n) (drop n l)) c.min.ensures
    ∙ (take_rest l (min 44 (length l)) ∙ (drop_min 44 l ∙ (ap (drop 44) c.as_slice-form.ensures ∙ sym (ap (λ o. contents_in (option_copied o)) c.in-Some.is)))) in
    ok_with (λ v. v.items) c.from_slice.result behind c.from_slice.ensures.items
