-- The front of a sheet: the version and line 0, taken apart and put together; and the auditor's verdict after them.
use mathlib.Core.Path.{◌≡◌, refl, sym, ap, ◌∙◌}
use mathlib.Core.List.{List, [], ◌∷◌, ◌++◌}
use mathlib.Core.Bool.{Bool, true, false}
use Prim.Native.Nat.{ℕ, ◌+◌, ◌≤◌}
use native.Mathlib.Omega.{arith}
use borrow.Author.Tests.{eq-eqb, le-leb}
use lib.ListN.{length, take, drop, get_or, length-append, length-drop, take-append-drop}
use lib.Seq.{take_at, drop_at, drop-drop, length-take-le}
use Rattle.codec.specs.Bytes.{be}
use Rattle.card.specs.Version.{known_version}
use Rattle.card.proofs.Versions.{zero_unknown}
use Rattle.battery.specs.Battery.{fresh}
use Rattle.sheet_records.specs.Cards.{card_length, card_at, extension_at, refusal_at}
use Rattle.sheet_records.proofs.CardLaws.{card_length_front, card_length_take, fields_accepted}
use Rattle.sheet_lines.specs.Lines.{opening_length}
use Rattle.auditor.specs.Audit.{card_part, lines_part, card_line_ok, audit_card, audit_of}
use Rattle.auditor.specs.Rules.{Rules}
use Rattle.auditor.specs.Sheet.{CardAccepted}
use Rattle.auditor.specs.Cases.{Opened}
use Rattle.auditor.proofs.Opening.{opening_is, card_line_lem}
use Rattle.auditor.proofs.Walks.{Own, own_fresh}
use Rattle.auditor.proofs.ReadCalls.{card_held}

pub fresh_own : (version : ℕ) (card : List ℕ) → CardAccepted version card → Own version (card_at version card) (fresh (card_at version card))
fresh_own version card a = own_fresh version (card_at version card) (fields_accepted version card a) (card_held version card).start

-- ---- taken apart
module _ (version : ℕ) (known : known_version version ≡ true) (head card rest : List ℕ) (two : length head ≡ 2) (long : length card ≡ card_length version card) where
  abbrev bs : List ℕ
  bs = version ∷ (head ++ (card ++ rest))

  head_part : take 2 (drop 1 bs) ≡ head
  head_part = take_at head (card ++ rest) 2 two

  card_on : drop 3 bs ≡ card ++ rest
  card_on = drop_at head (card ++ rest) 2 two

  -- the card's length is found in its own bytes
  card_size : card_length version (drop 3 bs) ≡ card_length version card
  card_size = ap (card_length version) card_on ∙ card_length_front version card rest (omega arith)

  card_part_lem : card_part version bs ≡ card
  card_part_lem =
      ap (λ (n : ℕ). take n (drop 3 bs)) card_size ∙ ap (take (card_length version card)) card_on ∙ take_at card rest (card_length version card) long

  opening_size : opening_length version (drop 3 bs) ≡ 3 + card_length version card
  opening_size = opening_is version (drop 3 bs) ∙ ap (λ (n : ℕ). 3 + n) card_size

  rest_part : lines_part version bs ≡ rest
  rest_part =
      ap (λ (n : ℕ). drop n bs) opening_size ∙ sym (drop-drop (card_length version card) 3 bs) ∙ ap (drop (card_length version card)) card_on
      ∙ drop_at card rest (card_length version card) long

  sheet_long : opening_length version (drop 3 bs) ≤ length bs
  sheet_long = rw opening_size (simp length-append (omega arith))

  ok : be head ≡ card_length version card → CardAccepted version card → card_line_ok version bs ≡ true
  unfolding card_line_ok
  ok counts a =
      rw (le-leb (opening_length version (drop 3 bs)) (length bs) sheet_long, head_part, eq-eqb (be head) (card_length version (drop 3 bs)) (counts ∙ sym card_size), card_part_lem)
      (eq-eqb (refusal_at version card) 0 a)

  verdict : (rules : Rules) → be head ≡ card_length version card → CardAccepted version card → audit_of rules bs ≡ audit_card rules version (extension_at version card) (card_at version card) rest
  unfolding audit_of
  verdict rules counts a = rw (known, ok counts a, card_part_lem, rest_part)

pub audit_opened : (rules : Rules) (bs : List ℕ) (o : Opened bs) → audit_of rules bs ≡ audit_card rules o.version (extension_at o.version o.card) (card_at o.version o.card) o.rest
audit_opened rules bs o =
    ap (audit_of rules) o.bytes ∙ verdict o.version o.known o.head o.card o.rest o.two o.long rules o.counts o.accepted

pub opened_ok : (bs : List ℕ) (o : Opened bs) → card_line_ok (get_or bs 0 0) bs ≡ true
opened_ok bs o =
    ap (λ (x : List ℕ). card_line_ok (get_or x 0 0) x) o.bytes ∙ ok o.version o.known o.head o.card o.rest o.two o.long o.counts o.accepted

-- ---- put together

-- a known version was read from a byte that is there
pub starts_known : (bs : List ℕ) → known_version (get_or bs 0 0) ≡ true → (rest : List ℕ) × (bs ≡ get_or bs 0 0 ∷ rest)
starts_known [] h = let z : ◌≡◌ {A = Bool} true false = sym h ∙ zero_unknown in let w : ◌≡◌ {A = ℕ} 0 1 = cc in absurd (omega arith)
starts_known (x ∷ t) h = (t, refl)

split : (version : ℕ) (t : List ℕ) → version ∷ t ≡ version ∷ (take 2 t ++ (card_part version (version ∷ t) ++ lines_part version (version ∷ t)))
split version t =
    let n = card_length version (drop 2 t) in
    let s : opening_length version (drop 2 t) ≡ 3 + n = opening_is version (drop 2 t) in
    let d : drop n (drop 2 t) ≡ lines_part version (version ∷ t) = drop-drop n 3 (version ∷ t) ∙ ap (λ (m : ℕ). drop m (version ∷ t)) (sym s) in
    let e : drop 2 t ≡ take n (drop 2 t) ++ lines_part version (version ∷ t) =
    sym (take-append-drop n (drop 2 t)) ∙ ap (λ (y : List ℕ). take n (drop 2 t) ++ y) d in
    ap (λ (y : List ℕ). version ∷ y) (sym (take-append-drop 2 t) ∙ ap (λ (y : List ℕ). take 2 t ++ y) e)

opened_at : (version : ℕ) (t : List ℕ) → known_version version ≡ true → card_line_ok version (version ∷ t) ≡ true → Opened (version ∷ t)
opened_at version t known k =
    let bs : List ℕ = version ∷ t in
    let l = card_line_lem version bs k in
    let n = card_length version (drop 2 t) in
    let fits : n ≤ length (drop 2 t) = simp length-drop (omega (arith, l.long)) in
    let cut : length (card_part version bs) ≡ n = length-take-le n (drop 2 t) fits in
    let own : card_length version (card_part version bs) ≡ n = card_length_take version (drop 2 t) fits in
    record {
      version = version;
      known = known;
      head = take 2 t;
      card = card_part version bs;
      rest = lines_part version bs;
      bytes = split version t;
      two = length-take-le 2 t (omega (arith, l.long));
      counts = l.says ∙ sym own;
      long = cut ∙ sym own;
      accepted = l.accepted;
    }

pub opened : (bs : List ℕ) → known_version (get_or bs 0 0) ≡ true → card_line_ok (get_or bs 0 0) bs ≡ true → Opened bs
opened [] h k = let z : ◌≡◌ {A = Bool} true false = sym h ∙ zero_unknown in let w : ◌≡◌ {A = ℕ} 0 1 = cc in absurd (omega arith)
opened (x ∷ t) h k = opened_at x t h k
