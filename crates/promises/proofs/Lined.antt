-- The steps' lines for good calls are laid and agree.
use Rattle.std.specs.Prelude.{Some}
use Prim.Native.Nat.{ℕ, ◌+◌, ◌<◌}
use native.Mathlib.Omega.{arith}
use mathlib.Core.Path.{◌≡◌, refl, sym, ap, ◌∙◌}
use mathlib.Core.List.{List, [], ◌∷◌, ◌++◌, append_assoc}
use mathlib.Core.Bool.{Bool, true}
use lib.ListN.{length, get_or}
use lib.Ieee.{Float}
use Rattle.codec.specs.Bytes.{be_bytes}
use Rattle.codec.proofs.Laws.{length_be_bytes, be_be_bytes}
use Rattle.card.specs.Extension.{Extension}
use Rattle.card.specs.declared.Card.{Card}
use Rattle.battery.specs.Battery.{GoodBattery}
use Rattle.battery.specs.Call.{call_in_range}
use Rattle.battery.specs.declared.Battery.{Battery}
use Rattle.battery.specs.declared.Call.{Call}
use Rattle.battery.specs.declared.Answer.{Answer}
use Rattle.engine.specs.Steps.{step_of}
use Rattle.engine.proofs.StepKeeps.{step_keeps_card, step_keeps_good}
use Rattle.sheet_calls.specs.Calls.{call_of}
use Rattle.sheet_lines.specs.Answers.{answer_length, answer_at, answer_bytes, AcceptsItself, agrees, GoodAnswer}
use Rattle.sheet_lines.specs.Lines.{line_length, line_bytes}
use Rattle.sheet_lines.proofs.Lengths.{length_answer_bytes}
use Rattle.sheet_lines.proofs.AnswerBack.{answer_back, marks_written}
use Rattle.sheet_lines.proofs.Agreement.{agrees_self}
use Rattle.battery.proofs.GoodParts.{good_layers}
use Rattle.sheet_calls.proofs.CallLaws.{call_length_lem}
use Rattle.sheet_calls.proofs.Places.{call_short}
use Rattle.sheet_lines.proofs.LineLaws.{line_fits}
use Rattle.heat_battery.specs.Lists.{answer_read, answer_to, step_lines}
use Rattle.heat_battery.proofs.GoodAnswers.{answer_good}
use Rattle.auditor.specs.Sheet.{Line, bytes_of, lines_bytes, Laid}
use Rattle.auditor.proofs.Stepped.{Stepped}
use Rattle.promises.proofs.Spared.{AllGood}

-- lines with these bytes that the auditor steps through
pub record LinedUp (same : Float → Float → Bool) (version : ℕ) (extension : Extension) (c : Card) (b : Battery) (calls : List (List ℕ)) : Type 0 where
  pub lines : List Line
  pub read : List Call
  pub bytes : lines_bytes lines ≡ step_lines version extension b calls
  pub count : length lines ≡ length calls
  pub stepped : Stepped same version extension c b lines read

module _ (same : Float → Float → Bool) (self : AcceptsItself same) (version : ℕ) (extension : Extension) (c : Card) (b : Battery) (g : GoodBattery version b) (own : b.card ≡ c) (call : List ℕ) (d : Call)
    (reads : call_of version extension call ≡ Some d) (in_range : call_in_range version c d ≡ true) where
  abbrev s : Answer
  s = step_of version b d

  same_card : s.battery.card ≡ c
  same_card = step_keeps_card version b d ∙ own

  shows : GoodAnswer version s
  shows = answer_good version b d g

  abbrev line : Line
  line = record { head = be_bytes 2 (line_length version s.battery.card (length call)); call = call; answer = answer_bytes version s }

  fits : line_length version s.battery.card (length call) < 65536
  fits =
      line_fits version s.battery.card (length call) (rw (step_keeps_card version b d) (good_layers version b g))
      (omega (arith, call_length_lem version extension call d reads, call_short version (get_or call 0 0)))

  line_laid : Laid version extension c line d
  line_laid =
      record {
        two = length_be_bytes 2 (line_length version s.battery.card (length call));
        counts = be_be_bytes 2 (line_length version s.battery.card (length call)) fits ∙ (unfold line_length in ap (λ (n : ℕ). length call + n) (sym (length_answer_bytes version s)));
        reads = reads;
        in_range = in_range;
        long = length_answer_bytes version s ∙ ap (answer_length version) same_card;
        marks = marks_written version s shows;
      }

  line_agrees : agrees same (answer_at version c (answer_bytes version s)) s ≡ true
  line_agrees = rw (← same_card, answer_back version s shows) (agrees_self same self version s shows)

  answered : answer_to version extension b call ≡ s
  unfolding answer_to answer_read
  answered = rw reads

  line_bytes_lem : (calls : List (List ℕ)) (ls : List Line) → lines_bytes ls ≡ step_lines version extension s.battery calls → bytes_of line ++ lines_bytes ls ≡ step_lines version extension b (call ∷ calls)
  unfolding step_lines line_bytes
  line_bytes_lem calls ls e = rw (answered, e) (simp append_assoc)

  pub lined_first : (calls : List (List ℕ)) → LinedUp same version extension c s.battery calls → LinedUp same version extension c b (call ∷ calls)
  lined_first calls u =
      record {
        lines = line ∷ u.lines;
        read = d ∷ u.read;
        bytes = line_bytes_lem calls u.lines u.bytes;
        count = let n = u.count in omega arith;
        stepped = (line_laid, line_agrees, u.stepped);
      }

pub lined_up : (same : Float → Float → Bool) → AcceptsItself same → (version : ℕ) (extension : Extension) (c : Card) (calls : List (List ℕ)) (b : Battery) → GoodBattery version b → b.card ≡ c → AllGood version extension c calls → LinedUp same version extension c b calls
unfolding step_lines
lined_up same self version extension c [] b g own all = record { lines = []; read = []; bytes = refl; count = refl; stepped = tt }
lined_up same self version extension c (call ∷ calls) b g own all =
    let d = all.0.0 in
    lined_first same self version extension c b g own call d all.0.1 all.0.2 calls
    (lined_up same self version extension c calls (step_of version b d).battery (step_keeps_good version b d g) (step_keeps_card version b d ∙ own) all.1)
