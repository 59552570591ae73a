use Rattle.std.proofs.Common.{◌∙◌, ◌++◌, ℕ, List, [], ◌∷◌, ap, rules, vec_len}
use Rattle.std.specs.Prelude.{not}
use Rattle.frac128.specs.FracMeaning.{fraction_of}
use Rattle.poly_text.specs.Seen.{read_terms}
use Rattle.poly_text.proofs.SeenSteps.{read-more, stands-at, pushed_terms}
use Rattle.full_cert.proofs.terms.add_term.Goals as goal

pub returns-then-not-branch-clause-stands : goal.returns-then-not-branch-clause-stands
returns-then-not-branch-clause-stands c =
    stands-at c.args.seen.now (read_terms c.args.terms.now.items) c.args.exponents
    c.requires.read.seen _ c.in_ok-insert.ensures.added ∙ ap not c.if-not-branch.true

pub returns-clause-stands : goal.returns-clause-stands
returns-clause-stands c =
    stands-at c.args.seen.now (read_terms c.args.terms.now.items) c.args.exponents
    c.requires.read.seen _ c.in_ok-insert.ensures.added ∙ ap not c.if-not-branch.false

pub returns-clause-added : goal.returns-clause-added
returns-clause-added c = λ added.
    pushed_terms c.args.terms.now.items c.push.new.self.items _ c.in_ok-push.ensures.items
    ∙ ap (λ (e : List ℕ). read_terms c.args.terms.now.items ++ (e, fraction_of c.args.coef) ∷ [])
    c.in-Ok.ensures.ok

pub returns-clause-read : goal.returns-clause-read
returns-clause-read c =
    read-more (vec_len c.args.exponents) c.args.terms.now.items c.push.new.self.items
    c.args.seen.now c.insert.new.self c.args.exponents _ c.in-Ok.ensures.ok (search rules)
    c.requires.read _ c.in_ok-insert.ensures.added c.if-not-branch.false
    c.in_ok-insert.ensures.updates c.in_ok-push.ensures.items
