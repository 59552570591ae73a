use Rattle.std.proofs.Common.{◌≡◌, ◌<◌, ◌≤◌, ◌++◌, [], ◌∷◌, length, sym, ap, subst, ◌∙◌, add-one, arith}
use Rattle.std.specs.Prelude.{codes, decimal, IsTrue}
use Rattle.loops.specs.Limits.{most_bytes}
use Rattle.loop_model.specs.Names.{place_of}
use Rattle.loop_model.specs.Words.{is_plain_word}
use Rattle.program_model.specs.PathEvents.{most_unknowns}
use Rattle.program_model.specs.Names.{unknown_name, unknown_names}
use Rattle.program_checker.proofs.UnknownNames.{unknown_fits, unknowns_count, one_more_unknown}
use Rattle.program_checker.proofs.unknowns.unknowns_of.Goals as goal
use Rattle.program_checker.proofs.unknowns.unknowns_of.Goals.{After-as_bytes}

-- the name of the next unknown
module _ (c : After-as_bytes) where
  name_is : c.as_bytes.result.now ≡ unknown_name c.loop-k.k
  name_is = c.as_bytes.ensures.value ∙ c.in_ok-name.ensures.ok
      ∙ ap (λ j. codes "any" ++ decimal j) (add-one c.loop-k.k)

  below : c.loop-k.k < most_unknowns
  below = omega (arith, c.loop-k-test.true, c.requires)

pub push_new-requires-clause-plain : goal.push_new-requires-clause-plain
push_new-requires-clause-plain c = subst (λ w. IsTrue (is_plain_word w)) (sym (name_is c))
    (unknown_fits c.loop-k.k (below c)).plain

pub push_new-requires-clause-short : goal.push_new-requires-clause-short
push_new-requires-clause-short c = subst (λ w. length w ≤ most_bytes) (sym (name_is c))
    (unknown_fits c.loop-k.k (below c)).short

pub push_new-requires-clause-other : goal.push_new-requires-clause-other
push_new-requires-clause-other c =
    ap (λ ns. place_of ns c.as_bytes.result.now) c.loop-k.invariant
    ∙ ap (place_of (unknown_names c.loop-k.k)) (name_is c)
    ∙ (unknown_fits c.loop-k.k (below c)).other

pub push_new-requires-clause-room : goal.push_new-requires-clause-room
push_new-requires-clause-room c =
    let many = ap length c.loop-k.invariant ∙ unknowns_count c.loop-k.k in
    let few = below c in omega (arith, many, few)

pub loop-k-preserved : goal.loop-k-preserved
loop-k-preserved c =
    let at = (goal.at.loop-k-preserved c).After-as_bytes in
    c.in_ok-push_new.ensures.ok
    ∙ ap (λ ns. ns ++ c.as_bytes.result.now ∷ []) c.loop-k.invariant
    ∙ ap (λ w. unknown_names c.loop-k.k ++ w ∷ []) (name_is at) ∙ one_more_unknown c.loop-k.k
