use Rattle.std.proofs.Common.{◌≡◌, length, take, All, sym, ap, subst, ◌∙◌}
use Rattle.std.proofs.lemmas.List.Elements.{All-nil}
use Rattle.algebra.proofs.Lists.{take_one}
use Rattle.program_families.specs.RestRows.{all_monomials, IsSetOf}
use Rattle.program_families.specs.declared.job.Rest.{Rest}
use Rattle.program_families.proofs.RestRows.{nothing_put, rests_all}
use Rattle.program_families.proofs.rows.monomials_of.Goals as goal

pub loop-rest-init : goal.loop-rest-init
loop-rest-init c = record {
  long = λ n h.
      subst (All (λ m. length m ≡ n)) (sym c.new-monomials.ensures.items)
      (All-nil (λ m. length m ≡ n));
  set = nothing_put c.new-monomials.ensures.items;
}

pub put_all-requires : goal.put_all-requires
put_all-requires c = record {
  long = λ k d l.
      c.loop-rest.invariant.long c.requires.0 c.requires.1 k d l
      ∙ sym (ap (λ (r : Rest). r.polynomial.arity) c.rest-item.is
      ∙ c.requires.1 c.loop-rest.rest-index c.rest-item.result c.loop-rest-test.true);
}

pub loop-rest-preserved : goal.loop-rest-preserved
loop-rest-preserved c =
    let rs = c.args.rests.now in
    let i = c.loop-rest.rest-index in
    let r = c.rest-item.result in
    record {
      long = λ n h k d l.
          c.in_ok-put_all.ensures.long k d l
          ∙ ap (λ (x : Rest). x.polynomial.arity) c.rest-item.is
          ∙ h i r c.loop-rest-test.true;
      set =
          subst (λ xs. IsSetOf xs c.put_all.new.monomials.items)
          (sym (ap all_monomials (take_one rs i r c.loop-rest-test.true c.rest-item.is)
          ∙ rests_all (take i rs) r))
          (c.in_ok-put_all.ensures.set (all_monomials (take i rs)) c.loop-rest.invariant.set);
    }
