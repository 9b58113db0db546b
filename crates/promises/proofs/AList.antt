-- Demand 3, first sentence: 'B accepts the sheet that A then has, however few bytes were free.'
use Prim.Native.Nat.{ℕ}
use mathlib.Core.Path.{◌≡◌, refl, sym, ap, ◌∙◌}
use mathlib.Core.Bool.{true}
use mathlib.Core.List.{List, [], ◌++◌}
use lib.ListN.{length, drop}
use Rattle.codec.specs.Bytes.{be_bytes}
use Rattle.codec.proofs.Laws.{length_be_bytes, be_be_bytes}
use Rattle.card.specs.Version.{known_version}
use Rattle.card.proofs.Versions.{known_byte}
use Rattle.battery.specs.Battery.{fresh}
use Rattle.battery.specs.declared.Battery.{Battery}
use Rattle.sheet_records.specs.Cards.{card_length, card_at, extension_at}
use Rattle.sheet_records.proofs.CardLaws.{card_below}
use Rattle.sheet_records.specs.Records.{record_bytes}
use Rattle.sheet_lines.specs.Answers.{AcceptsItself}
use Rattle.sheet_lines.specs.Lines.{opening_bytes}
use Rattle.sheet_lines.proofs.LineLaws.{opening_starts}
use Rattle.heat_battery.specs.Cases.{Opens}
use Rattle.heat_battery.specs.Lists.{ListedCall, AllGiven, sheet_of, spared_of}
use Rattle.heat_battery.proofs.AnyVersion.{opens_exactly}
use Rattle.heat_battery.proofs.EqualSteps.{sheet_equal_to_steps, fresh_encoded, spared_is}
use Rattle.auditor.specs.Rules.{Rules}
use Rattle.auditor.specs.Sheet.{lines_bytes, steps_from, Sheet}
use Rattle.auditor.proofs.Stepped.{all_laid, all_agree}
use Rattle.auditor.proofs.Exact.{exact}
use Rattle.promises.specs.Promises.{AcceptsAListByRules}
use Rattle.promises.proofs.Spared.{AllGood, spared_good}
use Rattle.promises.proofs.Lined.{LinedUp, lined_up}

module _ (rules : Rules) (self : AcceptsItself rules.same) (version : ℕ) (known : known_version version ≡ true) (card rec free : List ℕ) (calls : List ListedCall)
    (given : AllGiven version calls) (h : Opens version card rec free) where
  abbrev b : Battery
  b = fresh (card_at version card)

  abbrev spare : List (List ℕ)
  spare = spared_of version card rec free calls

  all_good : AllGood version (extension_at version card) (card_at version card) spare
  unfolding fresh
  all_good =
      rw (spared_is version known card rec free h calls)
      (spared_good version known card calls given b (record_bytes version card b) (drop (length (opening_bytes version card)) free) (fresh_encoded version card h.card_good))

  up : LinedUp rules.same version (extension_at version card) (card_at version card) b spare
  unfolding fresh
  up = lined_up rules.same self version (extension_at version card) (card_at version card) spare b (fresh_encoded version card h.card_good).good refl all_good

  a_sheet : rules.test version (card_at version card) ≡ true → Sheet rules (sheet_of version card rec free calls) (length spare)
  unfolding steps_from
  a_sheet passes =
      let s = sheet_equal_to_steps version known card rec free h calls given in
      record {
        version = version;
        card = card;
        lines = up.lines;
        calls = up.read;
        layout = record {
          known = known;
          head = be_bytes 2 (card_length version card);
          bytes = s.sheet ∙ ap (λ (x : List ℕ). opening_bytes version card ++ x) (sym up.bytes) ∙ opening_starts version card (lines_bytes up.lines) (known_byte version known);
          two = length_be_bytes 2 (card_length version card);
          counts = be_be_bytes 2 (card_length version card) (card_below version card h.card_good.accepted);
          long = h.card_good.long;
          laid = all_laid rules.same version (extension_at version card) (card_at version card) b up.lines up.read up.stepped;
        };
        accepted = h.card_good.accepted;
        passes = passes;
        agreed = all_agree rules.same version (extension_at version card) (card_at version card) [] b up.lines up.read refl up.stepped;
        count = up.count;
      }

-- A opens with code 0: its sheet, after any calls whatsoever in its version, is accepted by every audit that takes its card, and is what it should be
pub a_list : AcceptsAListByRules
a_list rules self version card rec free calls passes o given =
    let opens = (opens_exactly version card rec free).0 o in
    let known = opens.0 in
    let h = opens.1 in
    let s = sheet_equal_to_steps version known card rec free h calls given in
    record {
      verdict =
          (exact rules (sheet_of version card rec free calls) (length (spared_of version card rec free calls))).1 (a_sheet rules self version known card rec free calls given h passes);
      bytes = s.sheet;
      fits = s.fits;
      following = s.following;
    }
