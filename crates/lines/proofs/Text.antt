-- What check leaves gives the text. Assumes nothing.
use mathlib.Core.Path.{◌≡◌, refl, sym, ap, ap₂, ◌∙◌}
use mathlib.Core.List.{List, ◌++◌}
use Prim.Native.Nat.{ℕ, ◌+◌, ◌*◌, ◌-◌, ◌≤◌, ◌<◌}
use native.Mathlib.Decide.{dec_lt}
use native.Mathlib.Omega.{arith}
use lib.ListN.{length, get_or, take, drop, replicate, length-append, length-replicate, get_or-replicate, get_or-eq_default}
use lib.Seq.{get_or-drop, get_or-append-add}
use lib.IntN.{ℤ, pos}
use Rattle.std.specs.Prelude.{Result, Ok, Err}
use Rattle.digits.specs.UpTo.{up_to}
use Rattle.digits.proofs.UpTo.{length-up_to, filled_at}
use Rattle.refusals.specs.Refusals.{refusal_number, refusal_place}
use Rattle.refusals.specs.declared.Refusal.{Refusal}
use Rattle.netlist.specs.declared.Size.{Size}
use Rattle.reader.specs.Reading.{reading}
use Rattle.reader.specs.File.{netlist_in}
use Rattle.reader.proofs.Exists.{accepted-exists}
use Rattle.reader.proofs.Opened.{netlist-is}
use Rattle.flows.specs.Flows.{entry, constant}
use Rattle.flows.specs.Verdict.{giving, constant_by, table_by}
use Rattle.judgement.specs.Entries.{entries_filled}
use Rattle.judgement.specs.Judged.{written_by}
use Rattle.judgement.proofs.Judged.{table-written}
use Rattle.checking.specs.Check.{check_verdict, check_constant, weights_after_check}
use Rattle.lines.specs.Listing.{weight_lines, sum_line, refusal_line, room, text_by, listing_of, listing}
use Rattle.lines.proofs.Lines.{lines_same, lines-past}

-- the table as it is lent to check
abbrev zeros : List ℤ
zeros = replicate 1024 (pos 0)

zeros-at : (u : ℕ) → get_or zeros u (pos 0) ≡ pos 0
zeros-at u = go (dec_lt u 1024)
  where
    go : Dec (u < 1024) → get_or zeros u (pos 0) ≡ pos 0
    go (yes l) = get_or-replicate 1024 u (pos 0) (pos 0) l
    go (no g) = get_or-eq_default zeros (pos 0) {n = u} (omega (arith, length-replicate 1024 (pos 0)))

-- n entries of g, and the rest as it was lent: what follows is 0, and the lines are those of the n entries
module _ (g : ℕ → ℤ) (n : ℕ) where
  abbrev table : List ℤ
  table = up_to n g ++ drop n zeros

  past : (u : ℕ) → n ≤ u → get_or table u (pos 0) ≡ pos 0
  past u h =
      let e : u ≡ length (up_to n g) + (u - n) = omega (arith, length-up_to g n) in
      rw e (get_or-append-add (up_to n g) (drop n zeros) (u - n) (pos 0) ∙ get_or-drop n zeros (u - n) (pos 0) ∙ zeros-at (n + (u - n)))

  table-lines : length table ≡ 1024 → weight_lines (length table) (λ u. get_or table u (pos 0)) ≡ weight_lines n g
  table-lines l =
      let few : n ≤ 1024 = omega (arith, l, length-append (up_to n g) (drop n zeros), length-up_to g n) in
      let e : length table ≡ n + (1024 - n) = omega arith in
      ap (λ (k : ℕ). weight_lines k (λ u. get_or table u (pos 0))) e
      ∙ lines-past n (1024 - n) (λ u. get_or table u (pos 0)) past
      ∙ lines_same n (λ u. get_or table u (pos 0)) g (λ u h. filled_at g (drop n zeros) (pos 0) n u h)

module _ (file p : List ℕ) where
  text-by : {v : Result Unit Refusal} → check_verdict file p 1024 ≡ v → listing_of file p ≡ text_by (giving v (check_constant file p 1024)) (8 * (netlist_in file).components) (entry (netlist_in file) p)
  unfolding listing_of
  text-by e = ap (λ (v : Result Unit Refusal). text_by (giving v (check_constant file p 1024)) (8 * (netlist_in file).components) (entry (netlist_in file) p)) e

  -- longer files are cut
  whole : (fabric proof : List ℕ) → file ≡ take 1669 fabric → p ≡ take 16385 proof → listing_of file p ≡ listing fabric proof
  unfolding listing
  whole fabric proof ef ep = ap₂ listing_of ef ep

  listed-refused : {r : Refusal} → check_verdict file p 1024 ≡ Err r → listing_of file p ≡ refusal_line (refusal_number r) (refusal_place r)
  unfolding text_by
  listed-refused e = text-by e

  -- the text of a refused proposal, with the number and the place of the refusal
  pub text-refused : {r : Refusal} → check_verdict file p 1024 ≡ Err r
      → (listing_of file p ≡ refusal_line (refusal_number r) (refusal_place r))
      × ((fabric proof : List ℕ) → file ≡ take 1669 fabric → p ≡ take 16385 proof → (n k : ℕ) → n ≡ refusal_number r → k ≡ refusal_place r → refusal_line n k ≡ listing fabric proof)
  text-refused e = (listed-refused e, λ fabric proof ef ep n k en ek. ap₂ refusal_line en ek ∙ sym (listed-refused e) ∙ whole fabric proof ef ep)

  module _ (e : check_verdict file p 1024 ≡ Ok tt) where
    listed : listing_of file p ≡ weight_lines (8 * (netlist_in file).components) (entry (netlist_in file) p) ++ sum_line (check_constant file p 1024)
    unfolding text_by
    listed = text-by e

    -- K
    constant-is : constant (netlist_in file) p ≡ check_constant file p 1024
    unfolding check_constant constant_by
    constant-is = sym (ap (λ (v : Result Unit Refusal). constant_by v (netlist_in file) p) e)

    module _ {w : List ℤ} (ew : w ≡ weights_after_check file p zeros) (long : length w ≡ 1024) where
      weights-are : w ≡ table (entry (netlist_in file) p) (8 * (netlist_in file).components)
      unfolding weights_after_check table_by
      weights-are =
          ew ∙ ap (λ (n : ℕ). table_by (check_verdict file p n) (netlist_in file) p zeros) (length-replicate 1024 (pos 0))
          ∙ ap (λ (v : Result Unit Refusal). table_by v (netlist_in file) p zeros) e

      lines_are : weight_lines (length w) (λ u. get_or w u (pos 0)) ≡ weight_lines (8 * (netlist_in file).components) (entry (netlist_in file) p)
      lines_are =
          ap (λ (t : List ℤ). weight_lines (length t) (λ u. get_or t u (pos 0))) weights-are
          ∙ table-lines (entry (netlist_in file) p) (8 * (netlist_in file).components) (ap length (sym weights-are) ∙ long)

      whole-lines : {k : ℤ} → k ≡ check_constant file p 1024 → weight_lines (length w) (λ u. get_or w u (pos 0)) ++ sum_line k ≡ listing_of file p
      whole-lines ek = ap₂ ◌++◌ lines_are (ap sum_line ek) ∙ sym listed

  -- the text of an accepted proposal: by the definitions, and by the table w as check leaves it and the constant
  pub text-accepted : check_verdict file p 1024 ≡ Ok tt
      → (listing_of file p ≡ weight_lines (8 * (netlist_in file).components) (entry (netlist_in file) p) ++ sum_line (check_constant file p 1024))
      × ((w : List ℤ) → w ≡ weights_after_check file p zeros → length w ≡ 1024 → (k : ℤ) → k ≡ check_constant file p 1024
      → (weight_lines (length w) (λ u. get_or w u (pos 0)) ++ sum_line k ≡ listing_of file p)
      × ((fabric proof : List ℕ) → file ≡ take 1669 fabric → p ≡ take 16385 proof → weight_lines (length w) (λ u. get_or w u (pos 0)) ++ sum_line k ≡ listing fabric proof))
  text-accepted e = (listed e, λ w ew long k ek. (whole-lines e ew long ek, λ fabric proof ef ep. whole-lines e ew long ek ∙ whole fabric proof ef ep))

  -- the text of what check hands back and leaves
  pub text_checked : {o : Result ℤ Refusal} {w : List ℤ} → o ≡ giving (check_verdict file p 1024) (constant (netlist_in file) p) → w ≡ written_by entries_filled (check_verdict file p 1024) (netlist_in file) p zeros → length w ≡ 1024
      → text_by o (length w) (λ u. get_or w u (pos 0)) ≡ listing_of file p
  unfolding text_by weights_after_check
  text_checked {o} {w} eo ew long = go (check_verdict file p 1024) refl
    where
      given : {v : Result Unit Refusal} → check_verdict file p 1024 ≡ v → o ≡ giving v (constant (netlist_in file) p)
      given e = eo ∙ ap (λ (v : Result Unit Refusal). giving v (constant (netlist_in file) p)) e

      left : w ≡ weights_after_check file p zeros
      left =
          ew ∙ table-written (check_verdict file p 1024) (netlist_in file) p zeros
          ∙ sym (ap (λ (n : ℕ). table_by (check_verdict file p n) (netlist_in file) p zeros) (length-replicate 1024 (pos 0)))

      text : {r : Result ℤ Refusal} → o ≡ r → text_by o (length w) (λ u. get_or w u (pos 0)) ≡ text_by r (length w) (λ u. get_or w u (pos 0))
      text e = ap (λ (r : Result ℤ Refusal). text_by r (length w) (λ u. get_or w u (pos 0))) e

      go : (v : Result Unit Refusal) → check_verdict file p 1024 ≡ v → text_by o (length w) (λ u. get_or w u (pos 0)) ≡ listing_of file p
      go (Ok tt) e = text (given e) ∙ ((text-accepted e).1 w left long (constant (netlist_in file) p) (constant-is e)).0
      go (Err r) e = text (given e) ∙ sym (text-refused e).0

-- the table has room for the weights of every fabric that is read: the test of 23 is never met
pub room-enough : (file : List ℕ) {s : Size} → reading file ≡ Ok s → 8 * (netlist_in file).components ≤ room
room-enough file {s} e = rw (netlist-is file e) (omega (arith, (accepted-exists file s e).2.few_rows))
