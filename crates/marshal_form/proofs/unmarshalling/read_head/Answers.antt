use Rattle.std.proofs.Common.{rules, lit<}
use Rattle.std.proofs.lemmas.Result.{err_from_is_err_and}
use Rattle.marshal_form.proofs.Places.{wrong_at}
use Rattle.marshal_form.proofs.unmarshalling.read_head.Goals as goal

pub returns-in_err-expect-clause-refused : goal.returns-in_err-expect-clause-refused
returns-in_err-expect-clause-refused c =
    let p = err_from_is_err_and c.from_residual.result c.from_residual.ensures.1 in
    rw (p.1, p.2) (wrong_at c.args.form.now 0 _ (lit< tt) (search rules) (search rules) (search rules))

pub returns-in_err-expect-2-clause-refused : goal.returns-in_err-expect-2-clause-refused
returns-in_err-expect-2-clause-refused c =
    let p = err_from_is_err_and c.from_residual-in_err-expect-2.result c.from_residual-in_err-expect-2.ensures.1 in
    rw (p.1, p.2) (wrong_at c.args.form.now 1 _ (lit< tt) (search rules) (search rules) (search rules))

pub returns-in_err-expect-3-clause-refused : goal.returns-in_err-expect-3-clause-refused
returns-in_err-expect-3-clause-refused c =
    let p = err_from_is_err_and c.from_residual-in_err-expect-3.result c.from_residual-in_err-expect-3.ensures.1 in
    rw (p.1, p.2) (wrong_at c.args.form.now 2 _ (lit< tt) (search rules) (search rules) (search rules))

pub returns-in_err-expect-4-clause-refused : goal.returns-in_err-expect-4-clause-refused
returns-in_err-expect-4-clause-refused c =
    let p = err_from_is_err_and c.from_residual-in_err-expect-4.result c.from_residual-in_err-expect-4.ensures.1 in
    rw (p.1, p.2) (wrong_at c.args.form.now 3 _ (lit< tt) (search rules) (search rules) (search rules))

pub returns-in_err-expect-5-clause-refused : goal.returns-in_err-expect-5-clause-refused
returns-in_err-expect-5-clause-refused c =
    let p = err_from_is_err_and c.from_residual-in_err-expect-5.result c.from_residual-in_err-expect-5.ensures.1 in
    rw (p.1, p.2) (wrong_at c.args.form.now 4 _ (lit< tt) (search rules) (search rules) (search rules))

pub returns-in_err-meta-clause-refused : goal.returns-in_err-meta-clause-refused
returns-in_err-meta-clause-refused c =
    let p = err_from_is_err_and c.from_residual-in_err-meta.result c.from_residual-in_err-meta.ensures.1 in
    rw (p.1, p.2) (wrong_at c.args.form.now 5 _ (lit< tt) (search rules) (search rules) (search rules))

pub returns-in_err-expect-6-clause-refused : goal.returns-in_err-expect-6-clause-refused
returns-in_err-expect-6-clause-refused c =
    let p = err_from_is_err_and c.from_residual-in_err-expect-6.result c.from_residual-in_err-expect-6.ensures.1 in
    rw (p.1, p.2) (wrong_at c.args.form.now 6 _ (lit< tt) (search rules) (search rules) (search rules))

pub returns-in_err-expect-7-clause-refused : goal.returns-in_err-expect-7-clause-refused
returns-in_err-expect-7-clause-refused c =
    let p = err_from_is_err_and c.from_residual-in_err-expect-7.result c.from_residual-in_err-expect-7.ensures.1 in
    rw (p.1, p.2) (wrong_at c.args.form.now 7 _ (lit< tt) (search rules) (search rules) (search rules))

pub returns-in_err-length-clause-refused : goal.returns-in_err-length-clause-refused
returns-in_err-length-clause-refused c =
    let p = err_from_is_err_and c.from_residual-in_err-length.result c.from_residual-in_err-length.ensures.1 in
    rw (p.1, p.2) (wrong_at c.args.form.now 8 _ (lit< tt) (search rules) (search rules) (search rules))
