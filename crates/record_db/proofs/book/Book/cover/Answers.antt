use Rattle.std.proofs.Common.{ap, subst, sym, None, Some}
use Rattle.version_vector.specs.Places.{one_version}
use Rattle.version_vector.specs.Unions.{inserted}
use Rattle.record_db.specs.Steps.{Widens}
use Rattle.record_db.proofs.Kept.{apart_covered, kept}
use Rattle.record_db.proofs.book.Book.cover.Goals as goal

pub put-requires-in-Some-clause-new : goal.put-requires-in-Some-clause-new
put-requires-in-Some-clause-new c =
    let is = ap (λ seen. seen.state) c.self.view_is in
    let widens = subst (λ b. Widens b (inserted (one_version c.args.g) b.vector) c.args.next (Some c.in-Some.update)) (sym is) (subst (Widens _ _ c.args.next) c.in-Some.is c.requires.widens) in
    apart_covered _ c.in-Some.update.gvsn _ widens.new.1 c.self.invariant.covered

pub invariant_of-self : goal.invariant_of-self
invariant_of-self c =
    let is = ap (λ seen. seen.state) c.self.view_is in
    let widens = subst (λ b. Widens b (inserted (one_version c.args.g) b.vector) c.args.next (Some c.in-Some.update)) (sym is) (subst (Widens _ _ c.args.next) c.in-Some.is c.requires.widens) in
    rw (c.put-in-Some.ensures, c.put.ensures, c.uid.ensures, c.cover.ensures.form) (kept _ _ c.args.next (Some c.in-Some.update) c.args.form c.self.invariant widens)

pub invariant_of-self-in_default : goal.invariant_of-self-in_default
invariant_of-self-in_default c =
    let is = ap (λ seen. seen.state) c.self.view_is in
    let widens = subst (λ b. Widens b (inserted (one_version c.args.g) b.vector) c.args.next None) (sym is) (subst (Widens _ _ c.args.next) c.in_default.is c.requires.widens) in
    rw c.cover.ensures.form (kept _ _ c.args.next None c.args.form c.self.invariant widens)
