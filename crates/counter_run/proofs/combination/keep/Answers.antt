use Rattle.std.proofs.Common.{sym, subst}
use Rattle.poly.specs.Seen.{terms_each}
use Rattle.counter_run.specs.Combination.{IsPowerProduct, AreMonomialImages}
use Rattle.counter_run.proofs.Combining.{put_in}
use Rattle.counter_run.proofs.combination.keep.Goals as goal

pub returns : goal.returns
returns c =
    let images = terms_each c.args.images.now.items in
    record {
      known =
          subst (AreMonomialImages c.args.arity images) (sym c.in_ok-insert.ensures.items)
          (put_in c.args.arity images c.args.known.now.items c.place_of-place.result
          (record { monomial = c.in_ok-monomial.monomial; image = c.args.image })
          c.requires.known
          (subst (λ e. IsPowerProduct c.args.arity images e c.args.image)
          (sym c.in_ok-monomial.ensures.ok) c.requires.image));
    }
