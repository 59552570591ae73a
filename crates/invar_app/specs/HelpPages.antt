-- The pages of help, and which arguments ask for which.
--   page_named name        the page of the command of this name
--   page_behind_help arguments the page that the arguments behind `help` ask for;  page_alone page arguments: this one, where there are none
--   text_of page           what is printed, byte for byte
use Rattle.std.specs.Prelude.{ℕ, List, [], ◌∷◌, ◌++◌, Option, Some, None, codes, if◌then◌else◌}
use Rattle.std.specs.Str.{bytes_eq}
use Rattle.io_edge.specs.Texts.{line}
use Rattle.invar_app.specs.declared.pages.Page.{Page}
use Rattle.invar_app.specs.declared.pages.Page.TheVariants as page

abbrev pub page_named : List ℕ → Option Page
page_named name =
    if bytes_eq name (codes "basis") then Some page.Basis
    else (if bytes_eq name (codes "member") then Some page.Member
    else (if bytes_eq name (codes "decide") then Some page.Decide
    else (if bytes_eq name (codes "prove") then Some page.Prove
    else (if bytes_eq name (codes "counter") then Some page.Counter
    else (if bytes_eq name (codes "cert") then Some page.Cert
    else (if bytes_eq name (codes "check") then Some page.Check
    else (if bytes_eq name (codes "full") then Some page.Full
    else (if bytes_eq name (codes "checkfull") then Some page.CheckFull
    else (if bytes_eq name (codes "checkproof") then Some page.CheckProof
    else (if bytes_eq name (codes "run") then Some page.Run
    else (if bytes_eq name (codes "chain") then Some page.Chain
    else (if bytes_eq name (codes "chainrun") then Some page.ChainRun
    else (if bytes_eq name (codes "relations") then Some page.Relations
    else (if bytes_eq name (codes "gen") then Some page.Gen
    else None))))))))))))))

abbrev pub page_behind_help : List (List ℕ) → Option Page
page_behind_help [] = Some page.Overview
page_behind_help (name ∷ []) = page_named name
page_behind_help (name ∷ more ∷ rest) = None

abbrev pub page_alone : Page → List (List ℕ) → Option Page
page_alone it [] = Some it
page_alone it (argument ∷ rest) = None

abbrev pub loop_commands : List ℕ
loop_commands =
    line (codes "invar finds all polynomial equations that always hold at the head of a simple")
    ++ line (codes "loop. Of a proved build a prover has checked that each of them holds and that")
    ++ line (codes "none is missing. Any other build says `built without its proofs` by --version.")
    ++ line (codes "")
    ++ line (codes "About a loop:")
    ++ line (codes "  basis [--budget N] [--degree D] LOOP the reduced basis of all invariants")
    ++ line (codes "  member [--budget N] LOOP EQUATION    yes with its proof, or no")
    ++ line (codes "  decide [--budget N] LOOP EQUATION    yes or no, whatever the branches")
    ++ line (codes "  prove [--budget N] LOOP EQUATION     its certificate, or no")
    ++ line (codes "  counter [--length N] LOOP EQUATION   the first run after which it is wrong")
    ++ line (codes "  cert [--budget N] [--degree D] LOOP  the basis as a certificate")
    ++ line (codes "  check LOOP CERT                      is each polynomial listed an invariant?")
    ++ line (codes "  full [--budget N] LOOP               a certificate that none is missing")
    ++ line (codes "  checkfull LOOP CERT                  do they generate all invariants?")
    ++ line (codes "  run LOOP WORD VALUES                 the states of a run")

abbrev pub other_commands : List ℕ
other_commands =
    line (codes "About loops one after another, and about sequences:")
    ++ line (codes "  chain [--budget N] CHAIN             for each loop what holds at its head")
    ++ line (codes "  chainrun CHAIN WORDS VALUES          the states of a run of such loops")
    ++ line (codes "  relations [--budget N] FILE          the basis of all relations of sequences")
    ++ line (codes "About programs:")
    ++ line (codes "  checkproof PROGRAM CERT              does each polynomial listed hold there?")
    ++ line (codes "Other:")
    ++ line (codes "  gen NUMBER                           counts over a family of loops")
    ++ line (codes "  help [COMMAND], --help               this text, or more about one command")
    ++ line (codes "  --version                            the version")
    ++ line (codes "")
    ++ line (codes "Options stand before the file, in this order:")
    ++ line (codes "  --budget N   at most N steps of an analysis, 1 to 1000000; else 200000")
    ++ line (codes "  --degree D   equations up to degree D, 1 to 16, whatever the branches are")
    ++ line (codes "  --length N   words of at most N branches, 0 to 6; else 4")
    ++ line (codes "")
    ++ line (codes "Status: 0 an answer, or yes; 1 no; 2 the words are no command; 3 a fault of a")
    ++ line (codes "text, or a loop that isn't taken; 4 a number may not fit into 128 bits; 5 the")
    ++ line (codes "budget is spent; 6 no memory; 7 a file can't be read or is too long; 8 writing")
    ++ line (codes "failed.")
    ++ line (codes "")
    ++ line (codes "Examples:")
    ++ line (codes "  invar basis examples/squares.loop")
    ++ line (codes "  invar member examples/squares.loop 's = (a+1)^2'")

abbrev pub version : List ℕ
version =
    line (codes "invar 1.6.0")

abbrev pub head_of : Page → List ℕ
head_of page.Overview = loop_commands
head_of page.Version = version
head_of page.Basis = line (codes "invar basis [--budget N] [--degree D] LOOP")
head_of page.Member = line (codes "invar member [--budget N] LOOP EQUATION")
head_of page.Decide = line (codes "invar decide [--budget N] LOOP EQUATION")
head_of page.Prove = line (codes "invar prove [--budget N] LOOP EQUATION")
head_of page.Counter = line (codes "invar counter [--length N] LOOP EQUATION")
head_of page.Cert = line (codes "invar cert [--budget N] [--degree D] LOOP")
head_of page.Check = line (codes "invar check LOOP CERT")
head_of page.Full = line (codes "invar full [--budget N] LOOP")
head_of page.CheckFull = line (codes "invar checkfull LOOP CERT")
head_of page.CheckProof = line (codes "invar checkproof PROGRAM CERT")
head_of page.Run = line (codes "invar run LOOP WORD VALUES")
head_of page.Chain = line (codes "invar chain [--budget N] CHAIN")
head_of page.ChainRun = line (codes "invar chainrun CHAIN WORDS VALUES")
head_of page.Relations = line (codes "invar relations [--budget N] FILE")
head_of page.Gen = line (codes "invar gen NUMBER")

abbrev pub about_basis : List ℕ
about_basis =
    line (codes "Prints the reduced basis of all polynomial invariants of the loop in the file")
    ++ line (codes "LOOP, an equation a line, or `none`. Each invariant is a combination of these.")
    ++ line (codes "With `--degree D` the branches may be any, and those of these equations are")
    ++ line (codes "printed that have degree at most D.")

abbrev pub about_member : List ℕ
about_member =
    line (codes "Prints `yes`, with status 0, where the equation holds at the end of every run")
    ++ line (codes "of the loop, and a cofactor for each element of the basis: the products of the")
    ++ line (codes "two add up to the left side minus the right side. Prints `no`, with status 1,")
    ++ line (codes "where it fails at the end of some run.")

abbrev pub about_decide : List ℕ
about_decide =
    line (codes "Prints `yes`, with status 0, where the equation holds at the end of every run")
    ++ line (codes "of the loop, whatever its branches, and the reduced basis of its closure:")
    ++ line (codes "equations that hold at the start and that each branch keeps, from which it")
    ++ line (codes "follows. Prints `no`, with status 1, and the first run after which it is wrong.")

abbrev pub about_prove : List ℕ
about_prove =
    line (codes "Prints a certificate, with status 0, where the equation holds at the end of")
    ++ line (codes "every run of the loop, whatever its branches: its polynomial first, and then the")
    ++ line (codes "others that the proof needs. `invar check` reads it. Prints `no`, with status 1,")
    ++ line (codes "and the first run after which the equation is wrong.")

abbrev pub about_counter : List ℕ
about_counter =
    line (codes "Prints the first word of at most N branches after which the equation doesn't")
    ++ line (codes "hold, the states of a run with it and the left side minus the right side at")
    ++ line (codes "its end, with status 1; or `none up to N`, with status 0.")

abbrev pub about_cert : List ℕ
about_cert =
    line (codes "Prints the basis as a certificate, with the cofactors that show that a turn of")
    ++ line (codes "each branch keeps it zero. `invar check` reads it. With `--degree D` the")
    ++ line (codes "branches may be any, and the equations up to degree D are listed first.")

abbrev pub about_check : List ℕ
about_check =
    line (codes "Prints `valid`, with status 0, where the certificate in the file CERT shows that")
    ++ line (codes "each polynomial that it lists is an invariant of the loop; else the first part")
    ++ line (codes "that doesn't hold, with status 1.")

abbrev pub about_full : List ℕ
about_full =
    line (codes "Prints the basis as a full certificate, which shows too that it generates all")
    ++ line (codes "invariants. `invar checkfull` reads it.")

abbrev pub about_checkfull : List ℕ
about_checkfull =
    line (codes "Prints `complete`, with status 0, where the full certificate in the file CERT")
    ++ line (codes "shows that its polynomials generate all invariants of the loop; else the first")
    ++ line (codes "part that doesn't hold, with status 1.")

abbrev pub about_checkproof : List ℕ
about_checkproof =
    line (codes "Prints `valid`, with status 0, where the certificate in the file CERT shows that")
    ++ line (codes "each polynomial that it lists is 0 whenever a run comes to its point of the")
    ++ line (codes "program, and of each assertion whether it is listed there, and so `holds`, or is")
    ++ line (codes "`open`; else the first part that doesn't hold, with status 1.")

abbrev pub about_run : List ℕ
about_run =
    line (codes "Prints the states of a run, one a line. WORD has the numbers of the branches,")
    ++ line (codes "VALUES those of the variables at the start; both are joined by commas.")

abbrev pub about_chain : List ℕ
about_chain =
    line (codes "Prints for each of the loops one after another in the file CHAIN the reduced")
    ++ line (codes "basis of what holds at its head after all that comes before it.")

abbrev pub about_chainrun : List ℕ
about_chainrun =
    line (codes "Prints the states of a run of loops one after another. WORDS has one word for")
    ++ line (codes "each loop, joined by `/`; words and values are those of `invar run`.")

abbrev pub about_relations : List ℕ
about_relations =
    line (codes "Prints the reduced basis of all polynomial relations of sequences that are given")
    ++ line (codes "by recurrences in the file FILE, an equation a line, or `none`.")

abbrev pub about_gen : List ℕ
about_gen =
    line (codes "Analyses the first so many loops of a family, 1 to 1000, and prints how many")
    ++ line (codes "loops and elements there are, and the greatest degree. It reads no file.")

abbrev pub body_of : Page → List ℕ
body_of page.Overview = other_commands
body_of page.Version = []
body_of page.Basis = about_basis
body_of page.Member = about_member
body_of page.Decide = about_decide
body_of page.Prove = about_prove
body_of page.Counter = about_counter
body_of page.Cert = about_cert
body_of page.Check = about_check
body_of page.Full = about_full
body_of page.CheckFull = about_checkfull
body_of page.CheckProof = about_checkproof
body_of page.Run = about_run
body_of page.Chain = about_chain
body_of page.ChainRun = about_chainrun
body_of page.Relations = about_relations
body_of page.Gen = about_gen

abbrev pub text_of : Page → List ℕ
text_of page = head_of page ++ body_of page
