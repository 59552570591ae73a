-- The promises of the top call, from its outcome.
--   each_settled      the answers of each command are settled
--   promises          the promises
--   refuted           what no tells, of the commands that may say it
use Rattle.std.proofs.Common.{◌≡◌, ◌≢◌, refl, sym, subst, ◌∙◌, inl, inr}
use Rattle.std.specs.Prelude.{◌⊎◌, ℕ, Option, Some, None}
use Rattle.machines.specs.Journal.{Journal}
use Rattle.io_edge.specs.declared.answer.Status.{Status}
use Rattle.io_edge.specs.declared.answer.Status.TheVariants as status
use Rattle.io_edge.specs.Settled.{IsSettled}
use Rattle.io_edge.specs.Course.{EachAnswer}
use Rattle.io_edge.specs.Outcome.{Call, IsUnasked, Finishes}
use Rattle.io_edge.proofs.Outside.{outside, outside_unasked, usage_not}
use Rattle.io_edge.specs.Clauses.{Wrote, IfTold, IsOutside}
use Rattle.analysis_commands.specs.BasisArguments as basis_arguments
use Rattle.analysis_commands.specs.MemberArguments as member_arguments
use Rattle.analysis_commands.specs.MemberHeadline.{ShowsNo}
use Rattle.command_parts.specs.FileRequests as file_requests
use Rattle.certificate_commands.specs.CertificateArguments as check_arguments
use Rattle.certificate_commands.specs.CheckClauses.{IsRefuted}
use Rattle.certificate_commands.specs.CheckfullClauses as full_clauses
use Rattle.analysis_commands.proofs.BasisPromises as basis_promises
use Rattle.analysis_commands.proofs.MemberPromises as member_promises
use Rattle.analysis_commands.proofs.GenPromises as gen_promises
use Rattle.analysis_commands.proofs.RelationsPromises as relations_promises
use Rattle.certificate_commands.proofs.CheckPromises as check_promises
use Rattle.certificate_commands.proofs.CheckfullPromises as checkfull_promises
use Rattle.checkproof_command.specs.Arguments as proof_arguments
use Rattle.checkproof_command.specs.Clauses as proof_clauses
use Rattle.checkproof_command.proofs.Promises as proof_promises
use Rattle.replay_commands.proofs.RunPromises as run_promises
use Rattle.analysis_commands.proofs.ChainPromises as chain_promises
use Rattle.replay_commands.proofs.ChainRunPromises as chainrun_promises
use Rattle.replay_commands.specs.CounterArguments as counter_arguments
use Rattle.replay_commands.specs.CounterHeadline.{ShowsCounterRun}
use Rattle.replay_commands.proofs.CounterPromises as counter_promises
use Rattle.closing_commands.specs.DecideArguments as decide_arguments
use Rattle.closing_commands.specs.DecideHeadline.{ShowsCounter}
use Rattle.closing_commands.proofs.DecidePromises as decide_promises
use Rattle.closing_commands.specs.DegreeArguments as degree_arguments
use Rattle.closing_commands.proofs.DegreePromises as degree_promises
use Rattle.certificate_commands.proofs.FullPromises as full_promises
use Rattle.invar_app.proofs.HelpPromises as help_promises
use Rattle.invar_app.specs.Arguments.{Command, basis, basis_up_to, member, check, checkfull, checkproof, run, gen, chain, chainrun, counter, full, relations, decide, help, course_of, usage, usage_answer}
use Rattle.invar_app.specs.Promises.{Promises}

each_settled : (m : Journal) (command : Command)
    → EachAnswer (λ a. IsSettled a.status) (course_of m command)
each_settled m (basis request) = basis_promises.settled request
each_settled m (basis_up_to request) = degree_promises.settled request
each_settled m (member request) = member_promises.settled m request
each_settled m (check request) = check_promises.settled request
each_settled m (checkfull request) = checkfull_promises.settled request
each_settled m (checkproof request) = proof_promises.settled request
each_settled m (run request) = run_promises.settled request
each_settled m (gen n) = gen_promises.settled n
each_settled m (chain request) = chain_promises.settled request
each_settled m (chainrun request) = chainrun_promises.settled request
each_settled m (counter request) = counter_promises.settled request
each_settled m (full request) = full_promises.settled request
each_settled m (relations request) = relations_promises.settled request
each_settled m (decide request) = decide_promises.settled m request
each_settled m (help page) = help_promises.settled page

module _ (call : Call) where
  abbrev Ended : Option Command → Type 0
  Ended command = Finishes (course_of call.meter.before) command usage_answer call

  all_outside : (command : Option Command) → Ended command → IsOutside call
  all_outside None f = outside_unasked usage call f
  all_outside (Some command) f =
      outside (course_of call.meter.before command) call f
      (each_settled call.meter.before command)

  usage_alone : (command : Option Command) → Ended command → call.status ≡ status.Usage
      → command ≡ None
  usage_alone None f is = refl
  usage_alone (Some command) f is = absurd
      (usage_not (course_of call.meter.before command) call f
      (each_settled call.meter.before command) is)

  unasked : IsUnasked usage_answer call
      → (call.status ≡ status.Usage) ⊎ (call.status ≡ status.WriteFault)
  unasked f = elim f.delivers [ inl all ↦ inl all.same | inr cut ↦ inr cut.told ]

  -- arguments that are no command end so alone
  not_unasked : (s : Status) → IsUnasked usage_answer call → call.status ≡ s
      → status.Usage ≢ s → status.WriteFault ≢ s → ⊥
  not_unasked s f is usage write = elim (unasked f) [
    | inl told ↦ usage (sym told ∙ is)
    | inr cut ↦ write (sym cut ∙ is)
  ]

  abbrev Spends : Option Command → Type 0
  Spends command =
      ((request : basis_arguments.Request) × (command ≡ Some (basis request)))
      ⊎ (((request : member_arguments.Request) × (command ≡ Some (member request)))
      ⊎ (((n : ℕ) × (command ≡ Some (gen n)))
      ⊎ (((request : file_requests.FileRequest) × (command ≡ Some (chain request)))
      ⊎ (((request : file_requests.FileRequest) × (command ≡ Some (full request)))
      ⊎ (((request : file_requests.FileRequest) × (command ≡ Some (relations request)))
      ⊎ (((request : decide_arguments.Request) × (command ≡ Some (decide request)))
      ⊎ ((request : degree_arguments.Request) × (command ≡ Some (basis_up_to request)))))))))

  exhausted_by : (command : Option Command) → Ended command → call.status ≡ status.Budget
      → Spends command
  exhausted_by None f is = absurd (not_unasked status.Budget f is (λ h. (cc)) (λ h. (cc)))
  exhausted_by (Some (basis request)) f is = inl (request, refl)
  exhausted_by (Some (member request)) f is = inr (inl (request, refl))
  exhausted_by (Some (check request)) f is =
      absurd ((check_promises.checks request call f).exhausted is)
  exhausted_by (Some (checkfull request)) f is =
      absurd ((checkfull_promises.checks request call f).exhausted is)
  exhausted_by (Some (checkproof request)) f is =
      absurd ((proof_promises.checks_proof request call f).exhausted is)
  exhausted_by (Some (run request)) f is = absurd ((run_promises.runs request call f).exhausted is)
  exhausted_by (Some (gen n)) f is = inr (inr (inl (n, refl)))
  exhausted_by (Some (counter request)) f is =
      absurd ((counter_promises.counters request call f).exhausted is)
  exhausted_by (Some (chain request)) f is = inr (inr (inr (inl (request, refl))))
  exhausted_by (Some (chainrun request)) f is =
      absurd ((chainrun_promises.replays_chain request call f).exhausted is)
  exhausted_by (Some (full request)) f is = inr (inr (inr (inr (inl (request, refl)))))
  exhausted_by (Some (relations request)) f is = inr (inr (inr (inr (inr (inl (request, refl))))))
  exhausted_by (Some (decide request)) f is =
      inr (inr (inr (inr (inr (inr (inl (request, refl)))))))
  exhausted_by (Some (basis_up_to request)) f is =
      inr (inr (inr (inr (inr (inr (inr (request, refl)))))))
  exhausted_by (Some (help page)) f is =
      absurd (help_promises.ends_else page call f status.Budget is (λ h. cc) (λ h. cc) (λ h. cc))

  abbrev SaysNo : Option Command → Type 0
  SaysNo command =
      ((request : check_arguments.Request) × (command ≡ Some (check request)))
      ⊎ (((request : check_arguments.Request) × (command ≡ Some (checkfull request)))
      ⊎ (((request : member_arguments.Request) × (command ≡ Some (member request)))
      ⊎ (((request : counter_arguments.Request) × (command ≡ Some (counter request)))
      ⊎ (((request : decide_arguments.Request) × (command ≡ Some (decide request)))
      ⊎ ((request : proof_arguments.Request) × (command ≡ Some (checkproof request)))))))

  no_by : (command : Option Command) → Ended command → call.status ≡ status.No → SaysNo command
  no_by None f is = absurd (not_unasked status.No f is (λ h. (cc)) (λ h. (cc)))
  no_by (Some (basis request)) f is = absurd ((basis_promises.finds request call f).no is)
  no_by (Some (basis_up_to request)) f is =
      absurd ((degree_promises.finds_up_to request call f).no is)
  no_by (Some (member request)) f is = inr (inr (inl (request, refl)))
  no_by (Some (check request)) f is = inl (request, refl)
  no_by (Some (checkfull request)) f is = inr (inl (request, refl))
  no_by (Some (run request)) f is = absurd ((run_promises.runs request call f).no is)
  no_by (Some (gen n)) f is = absurd ((gen_promises.tallies n call f).no is)
  no_by (Some (chain request)) f is = absurd ((chain_promises.finds_each request call f).no is)
  no_by (Some (chainrun request)) f is =
      absurd ((chainrun_promises.replays_chain request call f).no is)
  no_by (Some (counter request)) f is = inr (inr (inr (inl (request, refl))))
  no_by (Some (decide request)) f is = inr (inr (inr (inr (inl (request, refl)))))
  no_by (Some (checkproof request)) f is = inr (inr (inr (inr (inr (request, refl)))))
  no_by (Some (full request)) f is = absurd ((full_promises.finds_full request call f).no is)
  no_by (Some (relations request)) f is =
      absurd ((relations_promises.finds_relations request call f).no is)
  no_by (Some (help page)) f is =
      absurd (help_promises.ends_else page call f status.No is (λ h. cc) (λ h. cc) (λ h. cc))

  pub promises : (command : Option Command) → Ended command → Promises command call
  promises command f = record {
    finishes = f;
    finds = λ request is. basis_promises.finds request call (subst Ended is f);
    finds_up_to = λ request is. degree_promises.finds_up_to request call (subst Ended is f);
    decides = λ request is. member_promises.decides request call (subst Ended is f);
    checks = λ request is. check_promises.checks request call (subst Ended is f);
    checks_full = λ request is. checkfull_promises.checks request call (subst Ended is f);
    checks_proof = λ request is. proof_promises.checks_proof request call (subst Ended is f);
    runs = λ request is. run_promises.runs request call (subst Ended is f);
    tallies = λ n is. gen_promises.tallies n call (subst Ended is f);
    finds_each = λ request is. chain_promises.finds_each request call (subst Ended is f);
    replays_chain = λ request is. chainrun_promises.replays_chain request call (subst Ended is f);
    counters = λ request is. counter_promises.counters request call (subst Ended is f);
    finds_full = λ request is. full_promises.finds_full request call (subst Ended is f);
    finds_relations = λ request is.
        relations_promises.finds_relations request call (subst Ended is f);
    decides_any = λ request is. decide_promises.decides_any request call (subst Ended is f);
    helps = λ page is. help_promises.helps page call (subst Ended is f);
    usage = usage_alone command f;
    no_command = λ none. unasked (subst Ended none f);
    untouched = λ none. (subst Ended none f).idle.kept;
    exhausted = exhausted_by command f;
    no = no_by command f;
    outside = all_outside command f;
  }

module _ (call : Call) (command : Option Command) (p : Promises command call) where
  abbrev IsRefutedCheck : Type 0
  IsRefutedCheck = (request : check_arguments.Request) × (command ≡ Some (check request))
      × IfTold call.files.before request.file (λ text.
      IfTold call.files.before request.certificate (λ certificate.
      Wrote call.sink (IsRefuted text certificate)))

  abbrev IsRefutedFull : Type 0
  IsRefutedFull = (request : check_arguments.Request) × (command ≡ Some (checkfull request))
      × IfTold call.files.before request.file (λ text.
      IfTold call.files.before request.certificate (λ certificate.
      Wrote call.sink (full_clauses.IsRefuted text certificate)))

  abbrev IsRefutedMember : Type 0
  IsRefutedMember = (request : member_arguments.Request) × (command ≡ Some (member request))
      × IfTold call.files.before request.file (λ text.
      Wrote call.sink (ShowsNo text request.equation))

  abbrev IsCountered : Type 0
  IsCountered = (request : counter_arguments.Request) × (command ≡ Some (counter request))
      × IfTold call.files.before request.file (λ text.
      Wrote call.sink (ShowsCounterRun text request.equation request.most))

  abbrev IsDenied : Type 0
  IsDenied = (request : decide_arguments.Request) × (command ≡ Some (decide request))
      × IfTold call.files.before request.file (λ text.
      Wrote call.sink (ShowsCounter text request.equation))

  abbrev IsRefutedProof : Type 0
  IsRefutedProof = (request : proof_arguments.Request) × (command ≡ Some (checkproof request))
      × IfTold call.files.before request.file (λ text.
      IfTold call.files.before request.certificate (λ certificate.
      Wrote call.sink (proof_clauses.IsRefuted text certificate)))

  pub refuted : call.status ≡ status.No
      → IsRefutedCheck ⊎ (IsRefutedFull ⊎ (IsRefutedMember ⊎ (IsCountered ⊎ (IsDenied
      ⊎ IsRefutedProof))))
  refuted is = elim (p.no is) [
    | inl by ↦ inl (by.0, by.1, (p.checks by.0 by.1).refuted is)
    | inr (inl by) ↦ inr (inl (by.0, by.1, (p.checks_full by.0 by.1).refuted is))
    | inr (inr (inl by)) ↦ inr (inr (inl (by.0, by.1, (p.decides by.0 by.1).refuted is)))
    | inr (inr (inr (inl by))) ↦
        inr (inr (inr (inl (by.0, by.1, (p.counters by.0 by.1).countered is))))
    | inr (inr (inr (inr (inl by)))) ↦
        inr (inr (inr (inr (inl (by.0, by.1, (p.decides_any by.0 by.1).refuted is)))))
    | inr (inr (inr (inr (inr by)))) ↦
        inr (inr (inr (inr (inr (by.0, by.1, (p.checks_proof by.0 by.1).refuted is)))))
  ]
