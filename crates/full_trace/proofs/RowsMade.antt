-- Divisions one after another, as the code makes them: one more, and one that is refused.
--   row_made, row_like       a division that has ended, behind others
--   row_refused, row_lost    one that was refused; one whose row found no room
--   passed                   a refusal that is passed on
use Rattle.std.proofs.Common.{◌≡◌, ℕ, suc, ◌+◌, ◌<◌, List, [], ◌∷◌, ◌++◌, take, drop, length, get_or, sym, ap, subst, ◌∙◌, Result, Ok, Err}
use Rattle.std.specs.Global.{Vec}
use Rattle.std.specs.Prelude.{IfErr}
use Rattle.std.specs.Result.{IsErrAnd}
use Rattle.std.specs.declared.cmp.PartialEq as PartialEq
use Rattle.std.proofs.lemmas.List.{map-append}
use Rattle.algebra.proofs.Lists.{at_index, take_next}
use Rattle.algebra.specs.Fraction.{Fraction, fractions}
use Rattle.polynomials.specs.Order.{Rank}
use Rattle.machines.specs.Division as division
use Rattle.machines.specs.Journal.{Entry, Journal}
use Rattle.machines.specs.Machine.{Refusal, out_of_memory, done, stopped, Stops, RanToEnd, Ran}
use Rattle.machines.specs.Machines as machines
use Rattle.frac128.specs.declared.fraction.Frac.{Frac}
use Rattle.frac128.specs.contracts.fraction.FracRing.TheImpl as ring
use Rattle.frac128.specs.contracts.fraction.FracPartialEq.TheImpl as equal
use Rattle.monos.specs.declared.order.Order as Order
use Rattle.poly.specs.declared.Poly.{Poly}
use Rattle.poly.specs.Seen.{terms_in, terms_each}
use Rattle.divide.specs.Division.{division_of, HasCofactors}
use Rattle.divide.specs.declared.dividing.Division.{Division}
use Rattle.corollaries.specs.Rows.{AreDivided, IsRefusedIn}
use Rattle.corollaries.proofs.AwaitingRows.{divided_behind}
use Rattle.task_lists.specs.Rows.{rows_of}
use Rattle.complete.specs.Completing.{AreLike}

pub passed : {X E : Type 0} (P : E → Type 0) (r : Result X E) (e : E) → IsErrAnd r (λ y. y ≡ e)
    → P e → IfErr r P
passed P (Ok x) e h p = absurd h
passed P (Err y) e h p = subst P (sym h) p

-- polynomials over fractions, and divisions of them, in any order
abbrev pub Polynomial : (O : Type 0) (k : Order.Ghosts O) (l : PartialEq.Ghosts O) → Type 0
Polynomial O k l = Poly Frac O ring.ghosts equal.ghosts k l

abbrev pub Divided : (O : Type 0) (k : Order.Ghosts O) (l : PartialEq.Ghosts O) → Type 0
Divided O k l = Division Frac O ring.ghosts equal.ghosts k l

module _ {O : Type 0} {k : Order.Ghosts O} {l : PartialEq.Ghosts O} where
  module _ {o : O} {m : ℕ} (list ps : List (Polynomial O k l)) (like : AreLike o m ps) (i : ℕ)
      (p : Polynomial O k l) (within : i < length ps) (is : p ≡ get_or ps i p)
      (rows : List (Vec (Polynomial O k l))) (first : List Entry) (before after : Journal)
      (so_far : AreDivided (k.order o) (terms_each list) (terms_each (take i ps)) (rows_of rows)
      first before.entries) where
    abbrev R : Rank
    R = k.order o

    like_here : (p.order ≡ o) × (p.arity ≡ m)
    like_here = subst (λ (q : Polynomial O k l). (q.order ≡ o) × (q.arity ≡ m)) (sym is)
        (like i p within)

    refused_here : (r : Refusal)
        → Stops (machines.division fractions R (terms_each list) (terms_in p)) before after r
        → IsRefusedIn R (terms_each list) (terms_each ps) first after r
    refused_here r x = record {
      earlier = terms_each (take i ps);
      here = terms_in p;
      later = terms_each (drop (suc i) ps);
      is = at_index terms_in ps i p within is;
      rows = rows_of rows;
      between = before;
      divided = so_far;
      stops = x;
    }

    module _ (d : Divided O k l) (ran : Ran (division_of p list) (HasCofactors p.order p.arity)
        before after
        (done d)) where
      ended : RanToEnd (machines.division fractions (k.order o) (terms_each list) (terms_in p))
          (HasCofactors p.order p.arity) before after d
      ended = subst (λ q. RanToEnd (machines.division fractions (k.order q) (terms_each list)
          (terms_in p)) (HasCofactors p.order p.arity) before after d) like_here.0 ran.to

      pub row_made : (news : List (Vec (Polynomial O k l))) → news ≡ rows ++ d.cofactors ∷ []
          → AreDivided (k.order o) (terms_each list) (terms_each (take (i + 1) ps)) (rows_of news)
          first after.entries
      row_made news new =
          subst (λ z. AreDivided R (terms_each list) z (rows_of news) first after.entries)
          (sym (take_next terms_in ps i p within is))
          (subst (λ z. AreDivided R (terms_each list) (terms_each (take i ps) ++ terms_in p ∷ []) z
          first after.entries) (sym (ap rows_of new
          ∙ map-append (λ (row : Vec (Polynomial O k l)). terms_each row.items) rows
          (d.cofactors ∷ [])))
          (divided_behind R (terms_each list) (terms_each (take i ps)) (rows_of rows) (terms_in p)
          (terms_each d.cofactors.items) first before.entries after.entries so_far (record {
            last = ended.last;
            finished = ended.finished;
            is = ended.gives.cofactors;
          })))

      pub row_like : AreLike o m d.cofactors.items
      row_like = subst (λ n. AreLike o n d.cofactors.items) like_here.1
          (subst (λ q. AreLike q p.arity d.cofactors.items) like_here.0 ended.gives.like)

      pub row_lost : IsRefusedIn R (terms_each list) (terms_each ps) first after out_of_memory
      row_lost = refused_here out_of_memory (record {
        at = ended.last;
        work = ended.finished.work;
      })

    pub row_refused : {G : Divided O k l → division.State Fraction → Type 0} (r : Refusal)
        → Ran (division_of p list) G before after (stopped r)
        → IsRefusedIn (k.order o) (terms_each list) (terms_each ps) first after r
    row_refused r ran = refused_here r (subst (λ q. Stops (machines.division fractions
        (k.order q) (terms_each list) (terms_in p)) before after r) like_here.0 ran.to)
