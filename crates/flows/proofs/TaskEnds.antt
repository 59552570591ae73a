-- Where the task of a transition has ended.
--   BasisMade           a basis that the completion of the source's list and the zeros, which has ended, gives
--   Imaging             in the division of an image: the elements before it have images that are members of the ideal of the generators
--   TaskHolds           what holds of a task's state
--   task_holds          so it is along a task
--   task_kept, task_basis     where it ends with all rests 0, the images of the target's elements are members; where it ends with rests, their basis is one for the source's list
use Rattle.std.proofs.Common.{◌≡◌, ◌⊎◌, inl, inr, ℕ, zero, suc, ◌+◌, ◌≤◌, Bool, true, false, cond, List, [], ◌∷◌, ◌++◌, length, sum, get_or, Option, Some, None, refl, sym, ap, subst, ◌∙◌, true≢false}
use Rattle.std.proofs.lemmas.List.{append_assoc}
use Rattle.algebra.specs.Each.{Each}
use Rattle.algebra.specs.In.{In}
use Rattle.algebra.proofs.Each.{each-append}
use Rattle.algebra.proofs.In.{each_in, in_right, in_push}
use Rattle.algebra.specs.Fraction.{Fraction, ℚ, rationals}
use Rattle.algebra.proofs.Fractions.{ℚ_ring, ℚ_field}
use Rattle.polynomials.specs.Order.{grevlex}
use Rattle.polynomials.specs.Polynomial.{Arity, AllArity, IsPolynomial}
use Rattle.polynomials.specs.Exponent.{same}
use Rattle.polynomials.specs.Terms.{Terms, constant, times}
use Rattle.polynomials.proofs.Arity.{arity-compose, arity-times, arity-constant}
use Rattle.polynomials.proofs.Exponent.{same_refl, same_true}
use Rattle.polynomials.proofs.Poly.{poly_same, same_from_poly, poly-times, poly-constant, poly_constant}
use Rattle.polynomials.proofs.Orders.{grevlex_order}
use Rattle.polynomials.proofs.Same.{Same-sym}
use Rattle.ideals.specs.Members.{IsMember}
use Rattle.ideals.proofs.FractionMembers.{member_same}
use Rattle.machines.specs.Collect.{collect}
use Rattle.machines.specs.Division as division
use Rattle.machines.specs.Elimination as elimination
use Rattle.machines.specs.Event.{Event}
use Rattle.machines.specs.Reduced.{IsReducedFor}
use Rattle.machines.specs.Run.{IsRun, HasEnded}
use Rattle.machines.proofs.Collecting.{collect-polynomial, collect-same}
use Rattle.machines.proofs.ReducedLists.{reduced_arity}
use Rattle.rounds.specs.Results.{LeadsTo}
use Rattle.rounds.proofs.Beginnings.{comes_here, comes_longer}
use Rattle.closures.specs.Closing.{next_extended, extended_list}
use Rattle.closures.specs.Monomials.{monomials_up_to}
use Rattle.closures.proofs.Monomials.{are_monomials_up_to, in_monomials}
use Rattle.flows.specs.Graph.{Transition, Graph}
use Rattle.flows.specs.Family.{after, generators}
use Rattle.flows.specs.Entries.{Entry}
use Rattle.flows.specs.Rows as own
use Rattle.flows.specs.Searching.{IsBasisFor}
use Rattle.flows.specs.Tasks.{Rests, State, fresh, completing, imaging, resting, Next, goes, kept, rested, Job, image_of, rest_in, lesser, times_image, product, from_rests, from_images, by_target, by_rest, from_fresh, completed, imaged, taken, next, moves, move_of}
use Rattle.flows.proofs.Tasks.{completed_basis, completed_itself, kept_member, division_rest_is, rest_of_none, rest_of_same}
use Rattle.flows.proofs.Resting.{image_one, image_next, rest_next, lesser_before}

module _ (G : Graph) (j : Job)
    (hp : (let t = j.transition in Each (IsPolynomial ℚ grevlex (t.unknowns + G.variables))
    (generators t (λ v. j.source))))
    (images : (let t = j.transition in AllArity (t.unknowns + G.variables) t.images))
    (count : (let t = j.transition in length t.images ≡ G.variables)) (d : ℕ)
    (are : j.monomials ≡ monomials_up_to G.variables d) where
  abbrev n : ℕ
  n = G.variables

  abbrev t : Transition
  t = j.transition

  abbrev w : ℕ
  w = (let t = j.transition in t.unknowns + G.variables)

  abbrev hs : List (Terms Fraction)
  hs = generators j.transition (λ v. j.source)

  abbrev begun : elimination.State Fraction
  begun = elimination.initial_state rationals grevlex hs

  abbrev Member : Terms Fraction → Type 0
  Member p = IsMember ℚ w hs (after n j.transition p)

  abbrev division_by : List (Terms Fraction) → division.State Fraction
      → Option (Event × division.State Fraction)
  division_by basis s = division.next rationals grevlex basis s

  pub record BasisMade (basis : List (Terms Fraction)) : Type 0 where
    pub last : elimination.State Fraction
    pub to : LeadsTo next_extended begun last
    pub ended : HasEnded next_extended last
    pub is : basis ≡ extended_list last

  pub record Imaging (basis ps : List (Terms Fraction)) (s : division.State Fraction) : Type
      0 where
    pub made : BasisMade basis
    pub before : List (Terms Fraction)
    pub element : Terms Fraction
    pub target : j.target ≡ Some (before ++ element ∷ ps)
    pub members : Each Member before
    pub to : LeadsTo (division_by basis) (division.initial_state basis (image_of n j element)) s

  abbrev RestOf : List (Terms Fraction) → List ℕ → Terms Fraction → Type 0
  RestOf basis e r = own.IsRest basis w (after n j.transition ((e, ℚ.one) ∷ [])) r

  pub record Resting (basis : List (Terms Fraction)) (rs : Rests) (m : List ℕ)
      (ms : List (List ℕ)) (s : division.State Fraction) : Type 0 where
    pub made : BasisMade basis
    pub before : List (List ℕ)
    pub order : j.monomials ≡ before ++ m ∷ ms
    pub rests : (e : List ℕ) → In e before → RestOf basis e (rest_in rs e)
    pub to : LeadsTo (division_by basis) (division.initial_state basis (product n j rs m)) s

  pub record Rested (basis : List (Terms Fraction)) (rs : Rests) : Type 0 where
    pub made : BasisMade basis
    pub rests : (e : List ℕ) → In e j.monomials → RestOf basis e (rest_in rs e)

  abbrev TaskHolds : State → Type 0
  TaskHolds fresh = Unit {0}
  TaskHolds (completing s) = LeadsTo next_extended begun s
  TaskHolds (imaging basis e ps s) = Imaging basis ps s
  TaskHolds (resting basis rs m ms s) = Resting basis rs m ms s

  abbrev NextHolds : Next → Type 0
  NextHolds (goes e s) = TaskHolds s
  NextHolds kept = (gs : List (Terms Fraction)) → j.target ≡ Some gs → Each Member gs
  NextHolds (rested basis rs) = Rested basis rs

  image_polynomial : (p : Terms Fraction) → IsPolynomial ℚ grevlex w (image_of n j p)
  image_polynomial p =
      collect-polynomial ℚ_field grevlex grevlex_order w (after n j.transition p)
      (arity-compose w ℚ p (let t = j.transition in t.images) images)

  same_some : (xs ys : List (Terms Fraction)) → Some xs ≡ Some ys → xs ≡ ys
  same_some xs ys e = cc

  nothing_more : {X : Type 0} (ps : List X) → ps ++ [] ≡ ps
  nothing_more [] = refl
  nothing_more (p ∷ ps) = ap (λ q. p ∷ q) (nothing_more ps)

  at_rests : (basis : List (Terms Fraction)) (rs : Rests) (before ms : List (List ℕ))
      → BasisMade basis → j.monomials ≡ before ++ ms
      → ((e : List ℕ) → In e before → RestOf basis e (rest_in rs e))
      → NextHolds (from_rests n j basis rs ms)
  unfolding from_rests
  at_rests basis rs before [] b o h = record {
    made = b;
    rests = λ e i. h e (subst (In e) (o ∙ nothing_more before) i);
  }
  at_rests basis rs before (m ∷ ms) b o h = record {
    made = b;
    before = before;
    order = o;
    rests = h;
    to = comes_here (division_by basis) (division.initial_state basis (product n j rs m));
  }

  no_rests : (basis : List (Terms Fraction)) → BasisMade basis
      → NextHolds (from_rests n j basis [] j.monomials)
  no_rests basis b = at_rests basis [] [] j.monomials b refl (λ e i. absurd i)

  at_images : (basis : List (Terms Fraction)) (e : ℕ) (before ps : List (Terms Fraction))
      → BasisMade basis → j.target ≡ Some (before ++ ps) → Each Member before
      → NextHolds (from_images n j basis e ps)
  unfolding from_images
  at_images basis e before [] b at h = λ gs f.
      subst (Each Member) (sym (nothing_more before) ∙ same_some (before ++ []) gs (sym at ∙ f)) h
  at_images basis e before (p ∷ ps) b at h = record {
    made = b;
    before = before;
    element = p;
    target = at;
    members = h;
    to = comes_here (division_by basis) (division.initial_state basis (image_of n j p));
  }

  at_target : (basis : List (Terms Fraction)) (o : Option (List (Terms Fraction)))
      → j.target ≡ o → BasisMade basis → NextHolds (by_target n j basis o)
  unfolding by_target Each
  at_target basis None at b = no_rests basis b
  at_target basis (Some gs) at b = at_images basis 0 [] gs b at tt

  at_fresh : (o : Option (List (Terms Fraction))) → j.target ≡ o → NextHolds (from_fresh n j o)
  unfolding from_fresh Each
  at_fresh None at = comes_here next_extended begun
  at_fresh (Some []) at = λ gs f. subst (Each Member) (same_some [] gs (sym at ∙ f)) tt
  at_fresh (Some (p ∷ ps)) at = comes_here next_extended begun

  at_completed : (s : elimination.State Fraction)
      (o : Option (Event × elimination.State Fraction)) → next_extended s ≡ o
      → LeadsTo next_extended begun s → NextHolds (completed n j s o)
  unfolding completed
  at_completed s None e to =
      at_target (extended_list s) j.target refl (record { last = s; to = to; ended = e; is = refl })
  at_completed s (Some (x, u)) e to = comes_longer next_extended begun s u x to e

  -- a rest 0 makes the image a member
  rest_member : (basis : List (Terms Fraction)) → BasisMade basis → (p : Terms Fraction)
      (s : division.State Fraction)
      → LeadsTo (division_by basis) (division.initial_state basis (image_of n j p)) s
      → HasEnded (division_by basis) s → division.remainder s ≡ [] → Member p
  rest_member basis b p s to end none =
      let a = arity-compose w ℚ p (let t = j.transition in t.images) images in
      let r = subst (λ bs. LeadsTo (division_by bs) (division.initial_state bs (image_of n j p)) s)
      b.is to in
      let f = subst (λ bs. HasEnded (division_by bs) s) b.is end in
      let h = image_polynomial p in
      member_same w hs (image_of n j p) (after n j.transition p)
      (Same-sym ℚ (collect-same ℚ_field grevlex grevlex_order (after n j.transition p)))
      (kept_member G j.transition j.source hp b.last b.to b.ended (image_of n j p) h.arity
      (rest_of_none w (extended_list b.last) (image_of n j p)
      (subst (λ q. own.IsRest (extended_list b.last) w (image_of n j p) q) none
      (division_rest_is w (extended_list b.last)
      (completed_itself G j.transition j.source hp b.last b.to b.ended) (image_of n j p) h s r
      f))))

  at_rest : (basis : List (Terms Fraction)) (e : ℕ) (ps : List (Terms Fraction))
      (s : division.State Fraction) (r : Terms Fraction) → division.remainder s ≡ r
      → HasEnded (division_by basis) s → Imaging basis ps s → NextHolds (by_rest n j basis e ps r)
  unfolding by_rest Each
  at_rest basis e ps s [] is end i =
      at_images basis (suc e) (i.before ++ i.element ∷ []) ps i.made
      (i.target ∙ ap Some (sym (append_assoc i.before (i.element ∷ []) ps)))
      (each-append Member i.before (i.element ∷ []) i.members
      (rest_member basis i.made i.element s i.to end is, tt))
  at_rest basis e ps s (u ∷ r) is end i = no_rests basis i.made

  at_imaged : (basis : List (Terms Fraction)) (e : ℕ) (ps : List (Terms Fraction))
      (s : division.State Fraction) (o : Option (Event × division.State Fraction))
      → division_by basis s ≡ o → Imaging basis ps s → NextHolds (imaged n j basis e ps s o)
  unfolding imaged
  at_imaged basis e ps s None f i = at_rest basis e ps s (division.remainder s) refl f i
  at_imaged basis e ps s (Some (x, u)) f i = record {
    made = i.made;
    before = i.before;
    element = i.element;
    target = i.target;
    members = i.members;
    to = comes_longer (division_by basis)
        (division.initial_state basis (image_of n j i.element)) s u x i.to f;
  }

  made_reduced : (basis : List (Terms Fraction)) → BasisMade basis
      → IsReducedFor rationals grevlex w basis (IsMember ℚ w basis)
  made_reduced basis b =
      subst (λ bs. IsReducedFor rationals grevlex w bs (IsMember ℚ w bs)) (sym b.is)
      (completed_itself G j.transition j.source hp b.last b.to b.ended)

  monomial_arity : (m : List ℕ) → Arity w (after n j.transition ((m, ℚ.one) ∷ []))
  monomial_arity m = arity-compose w ℚ ((m, ℚ.one) ∷ []) (let t = j.transition in t.images) images

  in_all : (m : List ℕ) (before ms : List (List ℕ)) → j.monomials ≡ before ++ m ∷ ms
      → length m ≡ n
  in_all m before ms o =
      let k = are_monomials_up_to n d in
      each_in (λ e. length e ≡ n) (monomials_up_to n d) m k.arities
      (subst (In m) are (subst (In m) (sym o) (in_right m before (m ∷ ms) (inl refl))))

  get_arity : (fs : List (Terms Fraction)) (k : ℕ) → AllArity w fs → Arity w (get_or fs k [])
  unfolding Each
  get_arity [] k h = tt
  get_arity (f ∷ fs) zero h = h.0
  get_arity (f ∷ fs) (suc k) h = get_arity fs k h.1

  -- where the division for m has ended
  rest_made : (basis : List (Terms Fraction)) (rs : Rests) (m : List ℕ) (ms : List (List ℕ))
      (s : division.State Fraction) → HasEnded (division_by basis) s
      → Resting basis rs m ms s → RestOf basis m (division.remainder s)
  rest_made basis rs m ms s end r = go (lesser m) refl r.to
    where
      ba : AllArity w basis
      ba = reduced_arity grevlex grevlex_order w basis (IsMember ℚ w basis)
          (made_reduced basis r.made)

      divided : (p : Terms Fraction) → Arity w p
          → LeadsTo (division_by basis)
          (division.initial_state basis (collect rationals grevlex p)) s
          → own.IsRest basis w (collect rationals grevlex p) (division.remainder s)
      divided p a to =
          division_rest_is w basis (made_reduced basis r.made) (collect rationals grevlex p)
          (collect-polynomial ℚ_field grevlex grevlex_order w p a) s to end

      go : (o : Option (List ℕ × ℕ)) → lesser m ≡ o
          → LeadsTo (division_by basis)
          (division.initial_state basis (times_image n j rs o)) s
          → RestOf basis m (division.remainder s)
      go None f to =
          let one = constant w ℚ.one in
          let oa : Arity w one = arity-constant w ℚ.one in
          rest_of_same w basis ba (collect rationals grevlex one)
          (after n j.transition ((m, ℚ.one) ∷ [])) (division.remainder s) (monomial_arity m)
          (same_from_poly w ℚ_ring _ _
          (collected one oa) (monomial_arity m)
          (poly_same w ℚ_ring (collect-same ℚ_field grevlex grevlex_order one)
          ∙ poly-constant w ℚ_ring w ℚ.one ∙ (poly_constant w ℚ_ring).to-one
          ∙ sym (image_one n j.transition m f)))
          (divided one oa to)
        where
          collected : (p : Terms Fraction) → Arity w p → Arity w (collect rationals grevlex p)
          collected p a = (collect-polynomial ℚ_field grevlex grevlex_order w p a).arity
      go (Some (e, k)) f to =
          let images_of = (let t = j.transition in t.images) in
          let i = lesser_before n d r.before m ms (sym are ∙ r.order) e k f in
          let old = r.rests e i in
          let p = times ℚ (rest_in rs e) (get_or images_of k []) in
          let pa : Arity w p =
          arity-times w ℚ (rest_in rs e) (get_or images_of k []) old.arity
          (get_arity images_of k images) in
          rest_next w basis ba (after n j.transition ((e, ℚ.one) ∷ [])) (get_or images_of k [])
          (rest_in rs e) (collect rationals grevlex p) (division.remainder s)
          (after n j.transition ((m, ℚ.one) ∷ [])) (monomial_arity m)
          (image_next n j.transition m e k (count ∙ sym (in_all m r.before ms r.order)) f)
          (poly_same w ℚ_ring (collect-same ℚ_field grevlex grevlex_order p)
          ∙ poly-times w ℚ_ring (rest_in rs e) (get_or images_of k []))
          old (divided p pa to)

  one_more : (basis : List (Terms Fraction)) (rs : Rests) (m : List ℕ) (r : Terms Fraction)
      (before : List (List ℕ)) → ((e : List ℕ) → In e before → RestOf basis e (rest_in rs e))
      → RestOf basis m r → (e : List ℕ) → In e (before ++ m ∷ [])
      → RestOf basis e (rest_in ((m, r) ∷ rs) e)
  unfolding rest_in
  one_more basis rs m r before h new e i = go (same m e) refl (in_push before m e i)
    where
      go : (b : Bool) → same m e ≡ b → In e before ⊎ (e ≡ m)
          → RestOf basis e (cond b r (rest_in rs e))
      go true f k = subst (λ e. RestOf basis e r) (same_true m e f) new
      go false f (inl k) = h e k
      go false f (inr k) =
          absurd (true≢false (sym (same_refl m) ∙ subst (λ e. same m e ≡ false) k f))

  at_taken : (basis : List (Terms Fraction)) (rs : Rests) (m : List ℕ) (ms : List (List ℕ))
      (s : division.State Fraction) (o : Option (Event × division.State Fraction))
      → division_by basis s ≡ o → Resting basis rs m ms s
      → NextHolds (taken n j basis rs m ms s o)
  unfolding taken
  at_taken basis rs m ms s None f r =
      at_rests basis ((m, division.remainder s) ∷ rs) (r.before ++ m ∷ []) ms r.made
      (r.order ∙ sym (append_assoc r.before (m ∷ []) ms))
      (one_more basis rs m (division.remainder s) r.before r.rests
      (rest_made basis rs m ms s f r))
  at_taken basis rs m ms s (Some (x, u)) f r = record {
    made = r.made;
    before = r.before;
    order = r.order;
    rests = r.rests;
    to = comes_longer (division_by basis)
        (division.initial_state basis (product n j rs m)) s u x r.to f;
  }

  next_holds : (s : State) → TaskHolds s → NextHolds (next n j s)
  unfolding next
  next_holds fresh h = at_fresh j.target refl
  next_holds (completing s) h = at_completed s (next_extended s) refl h
  next_holds (imaging basis e ps s) h = at_imaged basis e ps s (division_by basis s) refl h
  next_holds (resting basis rs m ms s) h = at_taken basis rs m ms s (division_by basis s) refl h

  moved : (x : Next) (e : Entry) (u : State) → NextHolds x → move_of n j x ≡ Some (e, u)
      → TaskHolds u
  moved (goes f s) e u h is =
      let pair : ◌≡◌ {A = Entry × State} (f, s) (e, u) = cc in
      subst TaskHolds (ap (λ (x : Entry × State). x.1) pair) h
  moved kept e u h is = absurd (let z : ⊥ = cc in z)
  moved (rested basis rs) e u h is = absurd (let z : ⊥ = cc in z)

  along : (s u : State) (es : List Entry) → TaskHolds s → IsRun (moves n j) s es u → TaskHolds u
  unfolding IsRun
  along s u [] h r = subst TaskHolds r h
  along s u (e ∷ es) h (v, m, r) = along v u es (moved (next n j s) e v (next_holds s h) m) r

  pub task_kept : (es : List Entry) (u : State) → IsRun (moves n j) fresh es u
      → next n j u ≡ kept → (gs : List (Terms Fraction)) → j.target ≡ Some gs → Each Member gs
  task_kept es u r e = subst NextHolds e (next_holds u (along fresh u es tt r))

  pub task_rested : (es : List Entry) (u : State) → IsRun (moves n j) fresh es u
      → (basis : List (Terms Fraction)) (rs : Rests) → next n j u ≡ rested basis rs
      → Rested basis rs
  task_rested es u r basis rs e = subst NextHolds e (next_holds u (along fresh u es tt r))

  pub task_basis : (es : List Entry) (u : State) → IsRun (moves n j) fresh es u
      → (basis : List (Terms Fraction)) (rs : Rests) → next n j u ≡ rested basis rs
      → IsBasisFor G j.transition j.source basis
  task_basis es u r basis rs e =
      let b = (task_rested es u r basis rs e).made in
      subst (IsBasisFor G j.transition j.source) (sym b.is)
      (completed_basis G j.transition j.source hp b.last b.to b.ended)

  pub task_rests : (es : List Entry) (u : State) → IsRun (moves n j) fresh es u
      → (basis : List (Terms Fraction)) (rs : Rests) → next n j u ≡ rested basis rs
      → (e : List ℕ) → length e ≡ n → sum e ≤ d → RestOf basis e (rest_in rs e)
  task_rests es u r basis rs e f l low =
      let k = task_rested es u r basis rs e in
      k.rests f (subst (In f) (sym are) (in_monomials n d f l low))
