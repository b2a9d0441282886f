-- A line is read in one way: any two outcomes that the contract of `read_line` permits are equal, from the file's lines.
use mathlib.Core.Path.{◌≡◌, refl, sym, ap, ap₂, ◌∙◌}
use mathlib.Core.List.{List, ◌∷◌}
use mathlib.Core.Bool.{true, false}
use Prim.Native.Nat.{ℕ, ◌+◌}
use lib.ListN.{length}
use lib.Seq.{sets}
use Rattle.scope.proofs.Tests.{clash}
use Rattle.scope.specs.Lines as scope
use Rattle.scope.specs.Lines.{ended, unhex, is_line}
use Rattle.std.specs.Prelude.{Result, Ok, Err}
use Rattle.hexadecimal.specs.declared.Line.{Line}
use Rattle.hexadecimal.specs.declared.BadLine.{BadLine}
use Rattle.hexadecimal.specs.Digits.{said_line, TakenLine, RefusedLine, Lined}

-- what a file's lines begin with is one line
first-line : {ls m n : List scope.Line} {a b : scope.Line} → ls ≡ a ∷ m → ls ≡ b ∷ n → a ≡ b
first-line {m = m} {n} {a} {b} p q = let e : a ∷ m ≡ b ∷ n = sym p ∙ q in cc

-- a line that is read is not refused
not-both : (file : List ℕ) (from at next to : ℕ) (before a b : List ℕ) → TakenLine file from before at next to a → RefusedLine file from before 3 b → ◌≡◌ {A = ℕ} 0 1
not-both file from at next to before a b h k =
    let e : ended h.digits_of ≡ k.line = first-line h.begins k.begins in
    let f : true ≡ false = sym h.good ∙ ap is_line e ∙ k.bad in
    clash (cc)

pub one_line : (file : List ℕ) (from : ℕ) (before : List ℕ) (at : ℕ) (r s : Result Line BadLine) (a b : List ℕ) → Lined file from before at (said_line r) a → Lined file from before at (said_line s) b → (r ≡ s) × (a ≡ b)
one_line file from before at (Ok r) (Ok s) a b h k =
    let l : ended h.digits_of ≡ ended k.digits_of = first-line h.begins k.begins in
    let e : h.digits_of ≡ k.digits_of = cc in
    let n : r.next ≡ s.next = h.ends ∙ ap (λ (ds : List ℕ). from + length ds + 1) e ∙ sym k.ends in
    let t : r.to ≡ s.to = h.reached ∙ ap (λ (ds : List ℕ). at + length (unhex ds)) e ∙ sym k.reached in
    (ap₂ (λ (i j : ℕ). Ok (record { next = i; to = j })) n t, h.written ∙ ap (λ (ds : List ℕ). sets before at (unhex ds)) e ∙ sym k.written)
one_line file from before at (Ok r) (Err e) a b h k = clash (not-both file from at r.next r.to before a b h k)
one_line file from before at (Err e) (Ok s) a b h k = clash (not-both file from at s.next s.to before b a k h)
one_line file from before at (Err e) (Err f) a b h k = (refl, h.kept ∙ sym k.kept)
