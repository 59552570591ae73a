-- Comparisons that are true, in turn.
--   Entering p ks q      the path q is p where the ks are true, and no event passes a limit;  entering_none, entering_more
--   entering_stops       a stop at one of them
use Rattle.std.proofs.Common.{◌≡◌, ◌<◌, ℕ, ◌+◌, true, List, [], ◌∷◌, ◌++◌, map, take, drop, length, get_or, sym, ap, subst, ◌∙◌, append_assoc, Result, Ok}
use Rattle.std.specs.Result.{IsErrAnd}
use Rattle.std.proofs.lemmas.List.{append-nil, map-append}
use Rattle.std.proofs.lemmas.List.Elements.{All-nil}
use Rattle.flows.specs.Steps as steps
use Rattle.loop_model.specs.declared.map_error.MapError.{MapError}
use Rattle.program_model.specs.Program.{Comparison}
use Rattle.program_model.specs.SyntaxView.{comparison_of}
use Rattle.program_model.specs.Events.{IsPastLimit, AreFree, Stops, Makes}
use Rattle.program_model.specs.PathEvents.{E, asked, compare_events, true_steps, true_events}
use Rattle.program_model.specs.UnderWay.{IsUnderWay, IsReady}
use Rattle.program_model.specs.declared.path.Path.{Path}
use Rattle.program_model.specs.declared.syntax.Comparison as code
use Rattle.program_model.proofs.Cuts.{cut_more, cut_all}
use Rattle.program_model.proofs.EventLaws.{free_append, stops_front, stops_behind, handed_on}

module _ (n : ℕ) where
  true_events-append : (cs : List (steps.Step E)) (ks js : List (Comparison E))
      → true_events n cs (ks ++ js)
      ≡ true_events n cs ks ++ true_events n (cs ++ true_steps ks) js
  unfolding true_events
  true_events-append cs [] js = ap (λ ds. true_events n ds js) (sym (append-nil cs))
  true_events-append cs (k ∷ ks) js =
      ap (λ es. compare_events n cs k true ++ es) (true_events-append (cs ++ asked true k ∷ []) ks
      js
      ∙ ap (λ ds. true_events n (cs ++ asked true k ∷ []) ks ++ true_events n ds js)
      (append_assoc cs (asked true k ∷ []) (true_steps ks)))
      ∙ sym (append_assoc (compare_events n cs k true) _ _)

  one_true : (cs : List (steps.Step E)) (k : Comparison E)
      → true_events n cs (k ∷ []) ≡ compare_events n cs k true
  unfolding true_events
  one_true cs k = append-nil (compare_events n cs k true)

  none_true : (cs : List (steps.Step E)) → AreFree (true_events n cs [])
  unfolding true_events
  none_true cs = All-nil (λ e. ¬ (IsPastLimit e))

abbrev seen : List code.Comparison → List (Comparison E)
seen ks = map comparison_of ks

pub record Entering (p : Path) (ks : List code.Comparison) (q : Path) : Type 0 where
  pub ready : IsReady p.variables q
  pub way : (n u : ℕ) (cs : List (steps.Step E)) → IsUnderWay n u cs [] p
      → IsUnderWay n u (cs ++ true_steps (seen ks)) [] q
  pub free : (n u : ℕ) (cs : List (steps.Step E)) → IsUnderWay n u cs [] p
      → AreFree (true_events n cs (seen ks))

pub entering_none : (p : Path) → IsReady p.variables p → Entering p [] p
entering_none p r = record {
  ready = r;
  way = λ n u cs h. subst (λ es. IsUnderWay n u es [] p) (sym (append-nil cs)) h;
  free = λ n u cs h. none_true n cs;
}

module _ (p q : Path) (ks : List code.Comparison) (i : ℕ) (k : code.Comparison)
    (l : i < length ks) (is : k ≡ get_or ks i k) (h : Entering p (take i ks) q) where
  more : seen (take (i + 1) ks) ≡ seen (take i ks) ++ comparison_of k ∷ []
  more = cut_more comparison_of ks i k l is

  module _ (n : ℕ) (cs : List (steps.Step E)) where
    abbrev here : List (steps.Step E)
    here = cs ++ true_steps (seen (take i ks))

    more_events : true_events n cs (seen (take (i + 1) ks))
        ≡ true_events n cs (seen (take i ks)) ++ compare_events n here (comparison_of k) true
    more_events = ap (true_events n cs) more
        ∙ true_events-append n cs (seen (take i ks)) (comparison_of k ∷ [])
        ∙ ap (λ es. true_events n cs (seen (take i ks)) ++ es) (one_true n here (comparison_of k))

    more_steps : here ++ asked true (comparison_of k) ∷ []
        ≡ cs ++ true_steps (seen (take (i + 1) ks))
    more_steps = append_assoc cs (true_steps (seen (take i ks))) (asked true (comparison_of k) ∷ [])
        ∙ ap (λ es. cs ++ es) (sym (ap true_steps more
        ∙ map-append (asked true) (seen (take i ks)) (comparison_of k ∷ [])))

  pub entering_more : (t : Path) → IsReady q.variables t
      → ((n u : ℕ) (cs : List (steps.Step E)) → IsUnderWay n u cs [] q
      → Makes (compare_events n cs (comparison_of k) true)
      (IsUnderWay n u (cs ++ asked true (comparison_of k) ∷ []) []) (Ok t))
      → Entering p (take (i + 1) ks) t
  entering_more t r f = record {
    ready = subst (λ n. IsReady n t) h.ready.variables r;
    way = λ n u cs g. subst (λ es. IsUnderWay n u es [] t) (more_steps n cs)
        (f n u (here n cs) (h.way n u cs g)).0;
    free = λ n u cs g. subst AreFree (sym (more_events n cs))
        (free_append (true_events n cs (seen (take i ks)))
        (compare_events n (here n cs) (comparison_of k) true) (h.free n u cs g)
        (f n u (here n cs) (h.way n u cs g)).1);
  }

  pub entering_stops : {X : Type 0} (P : X → Type 0) (x : MapError) (r : Result X MapError)
      → IsErrAnd r (λ y. y ≡ x) → (n u : ℕ) (cs : List (steps.Step E)) → IsUnderWay n u cs [] p
      → (IsUnderWay n u (cs ++ true_steps (seen (take i ks))) [] q
      → Stops (compare_events n (cs ++ true_steps (seen (take i ks))) (comparison_of k) true) x)
      → Makes (true_events n cs (seen ks)) P r
  entering_stops P x r e n u cs g f =
      let rest = true_events n (cs ++ true_steps (seen (take (i + 1) ks)))
      (seen (drop (i + 1) ks)) in
      let whole : true_events n cs (seen ks) ≡ true_events n cs (seen (take (i + 1) ks)) ++ rest =
      ap (true_events n cs) (cut_all comparison_of ks (i + 1))
      ∙ true_events-append n cs (seen (take (i + 1) ks)) (seen (drop (i + 1) ks)) in
      subst (λ es. Makes es P r) (sym whole)
      (handed_on (true_events n cs (seen (take (i + 1) ks)) ++ rest) P x r e
      (stops_front (true_events n cs (seen (take (i + 1) ks))) rest x
      (subst (λ es. Stops es x) (sym (more_events n cs))
      (stops_behind (true_events n cs (seen (take i ks)))
      (compare_events n (here n cs) (comparison_of k) true) x (h.free n u cs g)
      (f (h.way n u cs g))))))
