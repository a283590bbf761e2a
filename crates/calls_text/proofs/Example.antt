-- Two histories, one after another: their text, and what is read.
use Rattle.std.proofs.Common.{◌≡◌, ℕ, List, [], ◌∷◌, ◌++◌, Ok, codes, refl, ap, ◌∙◌, decimal, arith}
use Rattle.std.proofs.lemmas.Fmt.{decimal_digit, decimal_step}
use Rattle.ec_heading.specs.declared.decl_kind.DeclKind.{DeclKind}
use Rattle.ec_heading.specs.declared.decl_kind.DeclKind.TheVariants as sorts
use Rattle.ec_heading.specs.declared.version.Version.TheVariants.{Two}
use Rattle.ec_heading.specs.Form.{parts_in, split_words}
use Rattle.ec_heading.specs.Heading.{head_step}
use Rattle.ec_heading.specs.HeaderTree.{Declaration, heading_of_tree}
use Rattle.ec_text.specs.Words.{digits_from}
use Rattle.ec_count.specs.Reserved.{is_name}
use Rattle.calls_core.specs.declared.history.Op.TheVariants as ops
use Rattle.calls_core.specs.declared.history.Reply.TheVariants as replies
use Rattle.calls_core.specs.declared.history.Action.{Action}
use Rattle.calls_core.specs.declared.history.Action.TheVariants.{Invoke, Respond}
use Rattle.calls_core.specs.declared.history.Event.{Event}
use Rattle.calls_text.specs.Recordings.{RecordingModel}
use Rattle.calls_text.specs.Reading.{Opening, step, limit_step, from_step, event_step}
use Rattle.calls_text.specs.Forms.{phrase_in}
use Rattle.calls_text.specs.declared.fault.FaultKind.TheVariants as kinds
use Rattle.calls_text.specs.Outcomes.{lines_of_text, parse_from, fault_in}
use Rattle.calls_text.specs.Grammar.{history_text}

event : ℕ → ℕ → Action → Event
event at worker action = record { at = at; worker = worker; action = action }

-- THE DIGITS OF NUMBERS

hundred : decimal 100 ≡ codes "100"
hundred =
    decimal_step 100 (omega arith) (omega arith)
    ∙ ap (λ (ds : List ℕ). ds ++ codes "0") (decimal_step 10 (omega arith) (omega arith)
    ∙ ap (λ (ds : List ℕ). ds ++ codes "0") (decimal_digit 1 (omega arith)))

zero_is : decimal 0 ≡ codes "0"
zero_is = decimal_digit 0 (omega arith)

one : decimal 1 ≡ codes "1"
one = decimal_digit 1 (omega arith)

two : decimal 2 ≡ codes "2"
two = decimal_digit 2 (omega arith)

four : decimal 4 ≡ codes "4"
four = decimal_digit 4 (omega arith)

five : decimal 5 ≡ codes "5"
five = decimal_digit 5 (omega arith)

seven : decimal 7 ≡ codes "7"
seven = decimal_digit 7 (omega arith)

eight : decimal 8 ≡ codes "8"
eight = decimal_digit 8 (omega arith)

nine : decimal 9 ≡ codes "9"
nine = decimal_digit 9 (omega arith)

-- PRESSES, COUNTED FROM 7

presses : RecordingModel
presses = record {
  heading = heading_of_tree (record {
    version = Two;
    limit = 100;
    workers = codes "a" ∷ codes "b" ∷ codes "c" ∷ [];
    declarations = record {
      sort = sorts.EventCount;
      name = codes "E";
      number = 0;
      first = 0 ∷ 1 ∷ [];
      second = 2 ∷ [];
    } ∷ [];
  });
  from = (0, 7) ∷ [];
  events =
      event 0 2 (Invoke 0 ops.Read) ∷ event 1 0 (Invoke 0 ops.Advance)
      ∷ event 2 2 (Respond (replies.Number 8)) ∷ event 3 2 (Invoke 0 (ops.Await 9))
      ∷ event 4 0 (Respond replies.Done) ∷ event 5 2 (Respond replies.Timeout) ∷ [];
  lists = [];
}

presses_text : List ℕ
presses_text =
    codes "evc-calls 1\nlimit 100\nworkers a b c\neventcount E signal a b observe c\n"
    ++ codes "from E 7\nrun\n"
    ++ codes "c calls read E\na calls advance E\nc returns 8\nc calls await E 9\na returns done\n"
    ++ codes "c returns timeout\nend\n"

presses_spelled : history_text presses ≡ presses_text
unfolding presses presses_text event history_text
presses_spelled = rw (hundred, seven, eight, nine) refl

-- read before another history
presses_read : parse_from 1 Opening (lines_of_text (presses_text ++ codes "evc-calls 1\n"))
    ≡ Ok (record {
      recorded = presses;
      number = 14;
      rest = codes "evc-calls 1" ∷ [] ∷ [];
    })
unfolding presses presses_text event parse_from step limit_step from_step event_step head_step parts_in
    split_words phrase_in digits_from is_name
presses_read = refl

-- A DATABASE AND TWO SEMAPHORES

declared : DeclKind → List ℕ → ℕ → List ℕ → List ℕ → Declaration
declared sort name number first second =
    record { sort = sort; name = name; number = number; first = first; second = second }

-- the list 4 5 has the number 1, and the list of zeros 0
pairs : RecordingModel
pairs = record {
  heading = heading_of_tree (record {
    version = Two;
    limit = 9;
    workers = codes "a" ∷ codes "b" ∷ [];
    declarations =
        declared sorts.Database (codes "D") 2 (0 ∷ []) (1 ∷ [])
        ∷ declared sorts.Semaphore (codes "R") 1 (0 ∷ 1 ∷ []) []
        ∷ declared sorts.Semaphore (codes "S") 0 (0 ∷ 1 ∷ []) []
        ∷ declared sorts.Both (codes "both") 0 (0 ∷ 1 ∷ []) [] ∷ [];
  });
  from = [];
  events =
      event 0 0 (Invoke 12 (ops.Put 1)) ∷ event 1 1 (Invoke 12 ops.Get)
      ∷ event 2 0 (Respond replies.Done) ∷ event 3 1 (Respond (replies.Number 0))
      ∷ event 4 1 (Invoke 12 ops.Get) ∷ event 5 0 (Invoke 11 (ops.PBoth 1 2))
      ∷ event 6 1 (Respond (replies.Number 1)) ∷ event 7 0 (Respond replies.Timeout)
      ∷ event 8 1 (Invoke 11 (ops.V 2)) ∷ [];
  lists = (4 ∷ 5 ∷ []) ∷ [];
}

pairs_text : List ℕ
pairs_text =
    codes "evc-calls 1\nlimit 9\nworkers a b\ndatabase D 2 write a read b\nsemaphore R 1 use a b\n"
    ++ codes "semaphore S 0 use a b\nboth use a b\nrun\na calls write D 4 5\n"
    ++ codes "b calls snapshot D\na returns done\nb returns 0 0\nb calls snapshot D\n"
    ++ codes "a calls pboth R S\nb returns 4 5\na returns timeout\nb calls v S\nend\n"

pairs_spelled : history_text pairs ≡ pairs_text
unfolding pairs pairs_text declared event history_text
pairs_spelled = rw (zero_is, one, two, four, five, nine) refl

pairs_read : parse_from 14 Opening (lines_of_text pairs_text)
    ≡ Ok (record { recorded = pairs; number = 32; rest = [] ∷ [] })
unfolding pairs pairs_text declared event parse_from step limit_step from_step event_step head_step
    parts_in split_words phrase_in digits_from is_name
pairs_read = refl

-- TEXTS THAT ARE CUT OFF

cut_in_a_line : parse_from 1 Opening (lines_of_text (codes "evc-calls 1\nlimit 1\nwork"))
    ≡ fault_in 3 kinds.BadLine (codes "work")
unfolding parse_from step limit_step head_step parts_in digits_from
cut_in_a_line = refl

cut_before_its_lf : parse_from 1 Opening (lines_of_text (codes "evc-calls 1\nlimit 1"))
    ≡ fault_in 2 kinds.Unfinished (codes "limit 1")
unfolding parse_from step limit_step digits_from
cut_before_its_lf = refl

cut_after_an_lf : parse_from 1 Opening (lines_of_text (codes "evc-calls 1\nlimit 1\n"))
    ≡ fault_in 3 kinds.Unfinished []
unfolding parse_from step limit_step digits_from
cut_after_an_lf = refl
