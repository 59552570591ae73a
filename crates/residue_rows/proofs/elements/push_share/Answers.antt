use Rattle.std.proofs.Common.{◌≡◌, inr, ◌∙◌, ap, refl, false, true, get_or}
use Rattle.frac128.specs.FracMeaning.{fraction_of}
use Rattle.residue_rows.proofs.ElementSteps.{no_fraction, share_told, terms_pushed}
use Rattle.residue_rows.proofs.elements.push_share.Goals as goal

apart : false ≡ true → ⊥
apart e = cc

pub returns-in_default-clause-wide : goal.returns-in_default-clause-wide
returns-in_default-clause-wide c = λ lead e. (
  cc,
  no_fraction c.args.row.now.entries.items c.args.column c.index-entry.result.now c.neg.result
      c.requires (c.index-entry.ensures ∙ ap (λ l. get_or l c.args.column c.index-entry.result.now)
      (ap (λ v. v.items) c.entries.ensures)) c.neg.ensures (c.in_default.ensures.none refl),
)

pub returns-clause-pushed : goal.returns-clause-pushed
returns-clause-pushed c =
    inr (record {
      fraction = fraction_of c.in-Some.coef;
      told = share_told c.args.row.now.entries.items c.args.column c.index-entry.result.now
          c.neg.result c.requires (c.index-entry.ensures ∙ ap (λ l. get_or l c.args.column
          c.index-entry.result.now) (ap (λ v. v.items) c.entries.ensures)) c.neg.ensures
          (λ e. apart (c.if-is_zero.ensures.1 e)) c.in-Some.ensures.some;
      pushed = terms_pushed c.args.terms.now.items
          (record { mono = c.in_ok-mono.mono; coef = c.in-Some.coef }) c.args.mono.now
          c.in_ok-push.ensures.items c.in_ok-mono.ensures.ok refl;
    })
