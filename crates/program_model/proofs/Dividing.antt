-- Divisors of an assignment, in turn.
--   Dividing p ds q      of the path q, the divisors ds are done behind p, and no event passes a limit;  dividing_none, dividing_more
--   dividing_uses        what the next one uses
--   dividing_stops       a stop at one of them
--   assign_uses, assign_made        behind them all
use Rattle.std.proofs.Common.{◌≡◌, ◌<◌, ◌≤◌, ℕ, suc, ◌+◌, List, [], ◌∷◌, ◌++◌, map, take, drop, length, get_or, arith, refl, sym, ap, subst, subst₂, ◌∙◌, append_assoc, Result, Ok}
use Rattle.std.specs.Result.{IsErrAnd}
use Rattle.std.proofs.lemmas.List.{append-nil, map-append, length-map, length-take-le, take_all}
use Rattle.std.proofs.lemmas.List.Elements.{All-nil}
use Rattle.std.proofs.Math.ListN.{get_or-map}
use Rattle.loops.specs.WellFormed.{Uses}
use Rattle.flows.specs.Steps as steps
use Rattle.loop_model.specs.ExpressionView.{expr_of}
use Rattle.loop_model.specs.Operations.{operations_all}
use Rattle.loop_model.specs.declared.map_error.MapError.{MapError}
use Rattle.program_model.specs.Program as program
use Rattle.program_model.specs.Code.{divisors_of, step_code}
use Rattle.program_model.specs.WellFormed.{IsAssignment}
use Rattle.program_model.specs.SyntaxView.{divisor_of, assignment_of}
use Rattle.program_model.specs.Events.{Event, all_formed, IsPastLimit, AreFree, Stops, Makes}
use Rattle.program_model.specs.PathEvents.{E, places, behind, divisor_events, divisors_events, assign_events}
use Rattle.program_model.specs.UnderWay.{HasRoom, IsUnderWay, IsReady}
use Rattle.program_model.specs.declared.path.Path.{Path}
use Rattle.program_model.specs.declared.syntax.Divisor.{Divisor}
use Rattle.program_model.specs.declared.syntax.Assignment.{Assignment}
use Rattle.program_model.proofs.Cuts.{cut_more, cut_all}
use Rattle.program_model.proofs.EventLaws.{free_append, stops_front, stops_behind, handed_on, makes_behind}

abbrev seen : List Divisor → List (program.Divisor E)
seen ds = map divisor_of ds

-- what they divide by
abbrev by : List Divisor → List E
by ds = divisors_of (seen ds)

length-by : (ds : List Divisor) → length (by ds) ≡ length ds
length-by ds = length-map (seen ds) (λ (d : program.Divisor E). d.value) ∙ length-map ds divisor_of

module _ (n : ℕ) (cs : List (steps.Step E)) where
  divisors_events-append : (j : ℕ) (ds es : List (program.Divisor E))
      → divisors_events n cs j (ds ++ es)
      ≡ divisors_events n cs j ds ++ divisors_events n cs (j + length ds) es
  unfolding divisors_events
  divisors_events-append j [] es = ap (λ k. divisors_events n cs k es) (omega arith)
  divisors_events-append j (d ∷ ds) es =
      ap (λ xs. divisor_events n cs j d ++ xs) (divisors_events-append (suc j) ds es
      ∙ ap (λ k. divisors_events n cs (suc j) ds ++ divisors_events n cs k es) (omega arith))
      ∙ sym (append_assoc (divisor_events n cs j d) _ _)

  one_divisor : (j : ℕ) (d : program.Divisor E)
      → divisors_events n cs j (d ∷ []) ≡ divisor_events n cs j d
  unfolding divisors_events
  one_divisor j d = append-nil (divisor_events n cs j d)

  none_divided : (j : ℕ) → AreFree (divisors_events n cs j [])
  unfolding divisors_events
  none_divided j = All-nil (λ e. ¬ (IsPastLimit e))

pub record Dividing (p : Path) (ds : List Divisor) (q : Path) : Type 0 where
  pub room : HasRoom q
  pub variables : q.variables ≡ p.variables
  pub count : length q.images.items ≡ p.variables + length ds
  pub way : (n u : ℕ) (cs : List (steps.Step E)) → IsUnderWay n u cs [] p
      → IsUnderWay n u cs (by ds) q
  pub free : (n u : ℕ) (cs : List (steps.Step E)) → IsUnderWay n u cs [] p
      → AreFree (divisors_events n cs 0 (seen ds))

pub dividing_none : (p : Path) → IsReady p.variables p → Dividing p [] p
dividing_none p r =
    let w = r.whole in
    record {
      room = r.room;
      variables = refl;
      count = omega (arith, w);
      way = λ n u cs h. h;
      free = λ n u cs h. none_divided n cs 0;
    }

module _ (p q : Path) (ds : List Divisor) (i : ℕ) (d : Divisor) (l : i < length ds)
    (is : d ≡ get_or ds i d) (h : Dividing p (take i ds) q) where
  more : seen (take (i + 1) ds) ≡ seen (take i ds) ++ divisor_of d ∷ []
  more = cut_more divisor_of ds i d l is

  more_by : by (take (i + 1) ds) ≡ by (take i ds) ++ expr_of d.value ∷ []
  more_by = ap divisors_of more
      ∙ map-append (λ (d : program.Divisor E). d.value) (seen (take i ds)) (divisor_of d ∷ [])

  more_events : (n : ℕ) (cs : List (steps.Step E)) → divisors_events n cs 0 (seen (take (i + 1) ds))
      ≡ divisors_events n cs 0 (seen (take i ds))
      ++ divisor_events n cs (length (by (take i ds))) (divisor_of d)
  more_events n cs =
      let a = length-by (take i ds) in
      let b = length-map (take i ds) divisor_of in
      ap (divisors_events n cs 0) more
      ∙ divisors_events-append n cs 0 (seen (take i ds)) (divisor_of d ∷ [])
      ∙ ap (λ es. divisors_events n cs 0 (seen (take i ds)) ++ es)
      (one_divisor n cs _ (divisor_of d)
      ∙ ap (λ k. divisor_events n cs k (divisor_of d)) (omega (arith, a, b)))

  pub dividing_more : (t : Path) → HasRoom t → t.variables ≡ q.variables
      → length t.images.items ≡ suc (length q.images.items)
      → ((n u : ℕ) (cs : List (steps.Step E)) (es : List E) → IsUnderWay n u cs es q
      → Makes (divisor_events n cs (length es) (divisor_of d))
      (IsUnderWay n u cs (es ++ expr_of d.value ∷ [])) (Ok t))
      → Dividing p (take (i + 1) ds) t
  dividing_more t r v k f =
      let c = h.count in
      let a = length-take-le i ds (omega (arith, l)) in
      let b = length-take-le (i + 1) ds (omega (arith, l)) in
      record {
        room = r;
        variables = v ∙ h.variables;
        count = omega (arith, c, k, a, b);
        way = λ n u cs g. subst (λ es. IsUnderWay n u cs es t) (sym more_by)
            (f n u cs (by (take i ds)) (h.way n u cs g)).0;
        free = λ n u cs g. subst AreFree (sym (more_events n cs))
            (free_append (divisors_events n cs 0 (seen (take i ds)))
            (divisor_events n cs (length (by (take i ds))) (divisor_of d)) (h.free n u cs g)
            (f n u cs (by (take i ds)) (h.way n u cs g)).1);
      }

  pub dividing_stops : (fs : List Event) {X : Type 0} (P : X → Type 0) (x : MapError)
      (r : Result X MapError) → IsErrAnd r (λ y. y ≡ x) → (n u : ℕ) (cs : List (steps.Step E))
      → IsUnderWay n u cs [] p → (IsUnderWay n u cs (by (take i ds)) q
      → Stops (divisor_events n cs (length (by (take i ds))) (divisor_of d)) x)
      → Makes (divisors_events n cs 0 (seen ds) ++ fs) P r
  dividing_stops fs P x r e n u cs g f =
      let rest = divisors_events n cs (0 + length (seen (take (i + 1) ds)))
      (seen (drop (i + 1) ds)) in
      let whole : divisors_events n cs 0 (seen ds)
      ≡ divisors_events n cs 0 (seen (take (i + 1) ds)) ++ rest =
      ap (divisors_events n cs 0) (cut_all divisor_of ds (i + 1))
      ∙ divisors_events-append n cs 0 (seen (take (i + 1) ds)) (seen (drop (i + 1) ds)) in
      handed_on (divisors_events n cs 0 (seen ds) ++ fs) P x r e
      (stops_front (divisors_events n cs 0 (seen ds)) fs x
      (subst (λ es. Stops es x) (sym whole)
      (stops_front (divisors_events n cs 0 (seen (take (i + 1) ds))) rest x
      (subst (λ es. Stops es x) (sym (more_events n cs))
      (stops_behind (divisors_events n cs 0 (seen (take i ds)))
      (divisor_events n cs (length (by (take i ds))) (divisor_of d)) x (h.free n u cs g)
      (f (h.way n u cs g)))))))

  pub dividing_uses : (a : Assignment) → a.divisors.items ≡ ds
      → IsAssignment p.variables (assignment_of a)
      → Uses (λ k. k < length q.images.items) (expr_of d.value)
  dividing_uses a same u =
      let c = h.count in
      let m = length-take-le i ds (omega (arith, l)) in
      let e = length-map a.divisors.items divisor_of in
      let s = ap length same in
      subst₂ (λ k (x : program.Divisor E). Uses (λ j. j < k) x.value) (omega (arith, c, m))
      (get_or-map divisor_of a.divisors.items i d
      ∙ ap divisor_of (ap (λ xs. get_or xs i d) same ∙ sym is))
      (u.divisors i (divisor_of d) (omega (arith, l, e, s)))

-- ---- behind them all
pub divided_length : (p q : Path) (ds es : List Divisor) (i : ℕ) → length ds ≤ i → ds ≡ es
    → Dividing p (take i ds) q → Dividing p es q
divided_length p q ds es i l same h = subst (λ xs. Dividing p xs q) (take_all i ds l ∙ same) h

pub divided_makes : (p q : Path) (a : Assignment) (ds : List Divisor) → ds ≡ a.divisors.items
    → Dividing p ds q → (n u : ℕ) (cs : List (steps.Step E)) → IsUnderWay n u cs [] p
    → (r : Result Path MapError)
    → ((es : List E) → IsUnderWay n u cs es q → Makes (all_formed (places n cs (length es))
    (operations_all (places n cs (length es)) (behind n cs (length es) (length es))
    (map expr_of a.statement.values.items)))
    (IsUnderWay n u (cs ++ steps.assign es a.statement.targets.items
    (map expr_of a.statement.values.items) ∷ []) []) r)
    → Makes (assign_events n cs (assignment_of a))
    (IsUnderWay n u (cs ++ step_code (program.assign (assignment_of a)) ∷ []) []) r
unfolding step_code
divided_makes p q a ds same h n u cs g r f =
    let k = subst (λ xs. Dividing p xs q) same h in
    let es = by a.divisors.items in
    let vs = map expr_of a.statement.values.items in
    let e : length es ≡ length (seen a.divisors.items) =
    length-map (seen a.divisors.items) (λ (d : program.Divisor E). d.value) in
    makes_behind (divisors_events n cs 0 (seen a.divisors.items)) _ _ _ r (k.free n u cs g)
    (λ t w. w)
    (subst (λ j. Makes (all_formed (places n cs j) (operations_all (places n cs j)
    (behind n cs j j) vs)) (IsUnderWay n u (cs ++ steps.assign es a.statement.targets.items vs
    ∷ []) []) r) e (f es (k.way n u cs g)))
