-- Which arguments are a command.
--   Command                what the arguments ask for, of each command
--   evidence_of kind       what is shown up to a degree, by what is told of all invariants
--   basis_by kind arguments    what `basis` or `cert` asks for: the invariants up to a degree, where the arguments name one, or all
--   command_by name arguments  the command of this name, by the arguments behind it: what it asks for is said by its own arguments
--   command_of arguments       the command that the arguments are, or none
--   command_in arguments       the same of arguments as the program gets them
--   course_of m command    its course, where the meter has the journal m
--   usage                  the usage line, with which arguments that are no command are answered
use Rattle.std.specs.Prelude.{ℕ, String, List, [], ◌∷◌, map, string_bytes, Option, None, option_map, codes, if◌then◌else◌}
use Rattle.std.specs.Str.{bytes_eq}
use Rattle.std.specs.Global.{Vec}
use Rattle.std.specs.declared.alloc.Global.{Global}
use Rattle.machines.specs.Journal.{Journal}
use Rattle.io_edge.specs.declared.answer.Status.TheVariants as status
use Rattle.io_edge.specs.Texts.{Answer, line, with_text}
use Rattle.io_edge.specs.Course.{Course}
use Rattle.analysis_commands.specs.declared.kind.Kind.{Kind}
use Rattle.analysis_commands.specs.declared.kind.Kind.TheVariants as kinds
use Rattle.analysis_commands.specs.BasisArguments as basis_arguments
use Rattle.analysis_commands.specs.BasisCourse as basis_course
use Rattle.analysis_commands.specs.MemberArguments as member_arguments
use Rattle.analysis_commands.specs.MemberCourse as member_course
use Rattle.analysis_commands.specs.GenArguments as gen_arguments
use Rattle.analysis_commands.specs.GenCourse as gen_course
use Rattle.command_parts.specs.FileRequests as file_requests
use Rattle.analysis_commands.specs.RelationsCourse as relations_course
use Rattle.certificate_commands.specs.CertificateArguments as check_arguments
use Rattle.certificate_commands.specs.CheckCourse as check_course
use Rattle.certificate_commands.specs.CheckfullCourse as checkfull_course
use Rattle.checkproof_command.specs.Arguments as proof_arguments
use Rattle.checkproof_command.specs.Course as proof_course
use Rattle.replay_commands.specs.RunArguments as run_arguments
use Rattle.replay_commands.specs.RunCourse as run_course
use Rattle.analysis_commands.specs.ChainCourse as chain_course
use Rattle.replay_commands.specs.ChainrunArguments as chainrun_arguments
use Rattle.replay_commands.specs.ChainrunCourse as chainrun_course
use Rattle.replay_commands.specs.CounterArguments as counter_arguments
use Rattle.replay_commands.specs.CounterCourse as counter_course
use Rattle.closing_commands.specs.declared.evidence.Evidence.{Evidence}
use Rattle.closing_commands.specs.declared.evidence.Evidence.TheVariants as evidence
use Rattle.closing_commands.specs.DecideArguments as decide_arguments
use Rattle.closing_commands.specs.DecideCourse as decide_course
use Rattle.closing_commands.specs.DegreeArguments as degree_arguments
use Rattle.closing_commands.specs.DegreeCourse as degree_course
use Rattle.certificate_commands.specs.FullCourse as full_course
use Rattle.invar_app.specs.declared.pages.Page.{Page}
use Rattle.invar_app.specs.declared.pages.Page.TheVariants.{Overview, Version}
use Rattle.invar_app.specs.HelpPages.{page_behind_help, page_alone}
use Rattle.invar_app.specs.HelpClauses as help_course

pub data Command : Type 0 where
  basis : basis_arguments.Request → Command
  basis_up_to : degree_arguments.Request → Command
  member : member_arguments.Request → Command
  check : check_arguments.Request → Command
  checkfull : check_arguments.Request → Command
  checkproof : proof_arguments.Request → Command
  run : run_arguments.Request → Command
  gen : ℕ → Command
  chain : file_requests.FileRequest → Command
  chainrun : chainrun_arguments.Request → Command
  counter : counter_arguments.Request → Command
  full : file_requests.FileRequest → Command
  relations : file_requests.FileRequest → Command
  decide : decide_arguments.Request → Command
  help : Page → Command

abbrev pub evidence_of : Kind → Evidence
evidence_of kinds.Basis = evidence.Basis
evidence_of kinds.Certificate = evidence.Certificate

abbrev pub basis_by : Kind → List (List ℕ) → Option Command
basis_by kind arguments =
    if degree_arguments.has_degree arguments
    then option_map basis_up_to (degree_arguments.request_in (evidence_of kind) arguments)
    else option_map basis (basis_arguments.request_in kind arguments)

abbrev pub command_by : List ℕ → List (List ℕ) → Option Command
command_by name arguments =
    if bytes_eq name (codes "basis")
    then basis_by kinds.Basis arguments
    else (if bytes_eq name (codes "member")
    then option_map member (member_arguments.request_in arguments)
    else (if bytes_eq name (codes "cert")
    then basis_by kinds.Certificate arguments
    else (if bytes_eq name (codes "check") then option_map check (check_arguments.request_in arguments)
    else (if bytes_eq name (codes "checkfull")
    then option_map checkfull (check_arguments.request_in arguments)
    else (if bytes_eq name (codes "checkproof")
    then option_map checkproof (proof_arguments.request_in arguments)
    else (if bytes_eq name (codes "run") then option_map run (run_arguments.request_in arguments)
    else (if bytes_eq name (codes "gen") then option_map gen (gen_arguments.request_in arguments)
    else (if bytes_eq name (codes "chain") then option_map chain (file_requests.request_in arguments)
    else (if bytes_eq name (codes "chainrun")
    then option_map chainrun (chainrun_arguments.request_in arguments)
    else (if bytes_eq name (codes "counter")
    then option_map counter (counter_arguments.request_in arguments)
    else (if bytes_eq name (codes "relations")
    then option_map relations (file_requests.request_in arguments)
    else (if bytes_eq name (codes "full")
    then option_map full (file_requests.request_in arguments)
    else (if bytes_eq name (codes "decide")
    then option_map decide (decide_arguments.request_in evidence.Basis arguments)
    else (if bytes_eq name (codes "prove")
    then option_map decide (decide_arguments.request_in evidence.Certificate arguments)
    else (if bytes_eq name (codes "help") then option_map help (page_behind_help arguments)
    else (if bytes_eq name (codes "--help") then option_map help (page_alone Overview arguments)
    else (if bytes_eq name (codes "--version")
    then option_map help (page_alone Version arguments) else None)))))))))))))))))

abbrev pub command_of : List (List ℕ) → Option Command
command_of [] = None
command_of (name ∷ arguments) = command_by name arguments

abbrev pub command_in : Vec (String Global) → Option Command
command_in arguments = command_of (map string_bytes arguments.items)

abbrev pub course_of : Journal → Command → Course
course_of m (basis request) = basis_course.course request
course_of m (basis_up_to request) = degree_course.course request
course_of m (member request) = member_course.course m request
course_of m (check request) = check_course.course request
course_of m (checkfull request) = checkfull_course.course request
course_of m (checkproof request) = proof_course.course request
course_of m (run request) = run_course.course request
course_of m (gen n) = gen_course.course n
course_of m (chain request) = chain_course.course request
course_of m (chainrun request) = chainrun_course.course request
course_of m (counter request) = counter_course.course request
course_of m (full request) = full_course.course request
course_of m (relations request) = relations_course.course request
course_of m (decide request) = decide_course.course m request
course_of m (help page) = help_course.course page

abbrev pub usage : List ℕ
usage = line
    (codes "usage: invar basis [--budget N] [--degree D] LOOP | member [--budget N] LOOP EQUATION | cert [--budget N] [--degree D] LOOP | check LOOP CERT | run LOOP WORD VALUES | gen NUMBER | chain [--budget N] CHAIN | chainrun CHAIN WORDS VALUES | counter [--length N] LOOP EQUATION | full [--budget N] LOOP | checkfull LOOP CERT | relations [--budget N] FILE | decide [--budget N] LOOP EQUATION | prove [--budget N] LOOP EQUATION | checkproof PROGRAM CERT; invar --help says more")

abbrev pub usage_answer : Answer
usage_answer = with_text status.Usage usage
