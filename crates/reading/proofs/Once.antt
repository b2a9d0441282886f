-- One answer of a file (`read`) and of a line (`enter_line`), and after a file's refusal one content of the slices: from what the contracts' records say.
use mathlib.Core.Path.{◌≡◌, refl, sym, ap, ap₂, subst, ◌∙◌}
use mathlib.Core.List.{List}
use mathlib.Core.Option.{some}
use Prim.Native.Nat.{ℕ, zero, suc, ◌≤◌}
use native.Mathlib.Omega.{arith}
use lib.Seq.{length-take-le}
use lib.ListN.{length, replicate, drop}
use Rattle.scope.proofs.Tests.{clash}
use Rattle.scope.specs.Blocks as scope
use Rattle.scope.specs.Blocks.{Phase, types, constructors, clauses, closed, ok, refuse, framed, parsed, faulty}
use Rattle.layout.specs.Types.{all_fields}
use Rattle.order.specs.declared.State.{State}
use Rattle.order.specs.Phases.{phase_of}
use Rattle.std.specs.Prelude.{Result, Ok, Err}
use Rattle.scope.proofs.Numbers.{numbers-once}
use Rattle.scope.specs.Numbers.{number_of}
use Rattle.scope.specs.declared.refusal.Refusal.{Refusal}
use Rattle.reading.specs.declared.file.Parsed.{Parsed}
use Rattle.reading.specs.declared.file.Faulty.{Faulty}
use Rattle.reading.specs.Said.{Held, held, Says, Known, said_step, Stepped, goes, stops}
use Rattle.reading.specs.Files.{said_parsed, ReadAs, a_block, a_fault}

-- what an answer says has its case, number, values and line
abbrev Said : Type 0
Said = scope.Step (ℕ × (ℕ × ℕ)) × ℕ

-- what was parsed, by its three numbers; a fault, by its reason and its line
parsed_with : ℕ → ℕ → ℕ → Result Parsed Faulty
parsed_with s c t = Ok (record { subject = s; clauses = c; types = t })

fault-with : Refusal → ℕ → Result Parsed Faulty
fault-with why line = Err (record { why = why; line = line })

same-parsed : (r s : Result Parsed Faulty) → said_parsed r ≡ said_parsed s → r ≡ s
unfolding parsed_with fault-with
same-parsed (Ok p) (Ok q) e =
    let i : ◌≡◌ {A = scope.Step (ℕ × (ℕ × ℕ))} (ok (p.subject, (p.clauses, p.types))) (ok (q.subject, (q.clauses, q.types))) = ap (λ (x : Said). x.0) e in
    let j : ◌≡◌ {A = ℕ × (ℕ × ℕ)} (p.subject, (p.clauses, p.types)) (q.subject, (q.clauses, q.types)) = cc in
    ap (λ (x : ℕ × (ℕ × ℕ)). parsed_with x.0 x.1.0 x.1.1) j
same-parsed (Ok p) (Err f) e = let i = ap (λ (x : Said). x.0) e in clash (cc)
same-parsed (Err f) (Ok p) e = let i = ap (λ (x : Said). x.0) e in clash (cc)
same-parsed (Err f) (Err g) e =
    let i : ◌≡◌ {A = scope.Step (ℕ × (ℕ × ℕ))} (refuse (number_of f.why)) (refuse (number_of g.why)) = ap (λ (x : Said). x.0) e in
    let j : number_of f.why ≡ number_of g.why = cc in
    ap₂ fault-with (numbers-once f.why g.why j) (ap (λ (x : Said). x.1) e)

same_block : {s s' c c' t t' : ℕ} → s ≡ s' → c ≡ c' → t ≡ t' → ◌≡◌ {A = Said} (ok (s, (c, t)), 0) (ok (s', (c', t')), 0)
same_block a b d = rw (a, b, d)

same-fault : {n n' k k' : ℕ} → n ≡ n' → k ≡ k' → ◌≡◌ {A = Said} (refuse n, k) (refuse n', k')
same-fault a b = rw (a, b)

read-once : (file : List ℕ) {h h' : Held} {r r' : Said} → ReadAs file h r → ReadAs file h' r' → r ≡ r'
read-once file (a_block b is x) (a_block b' is' x') =
    let e : parsed b ≡ parsed b' = sym is ∙ is' in
    let i : b ≡ b' = cc in
    same_block (x.subject_is ∙ ap (λ (a : scope.Block). a.subject) i ∙ sym x'.subject_is) (x.clauses_are ∙ ap (λ (a : scope.Block). length a.rows) i ∙ sym x'.clauses_are) (x.holds.types_are ∙ ap (λ (a : scope.Block). length a.table) i ∙ sym x'.holds.types_are)
read-once file (a_block b is x) (a_fault {n = n} {k = k} f z c) = let e : parsed b ≡ faulty n k = sym is ∙ f in clash (cc)
read-once file (a_fault {n = n} {k = k} f z c) (a_block b is x) = let e : faulty n k ≡ parsed b = sym f ∙ is in clash (cc)
read-once file (a_fault {n = n} {k = k} f z c) (a_fault {n = n'} {k = k'} f' z' c') =
    let e : faulty n k ≡ faulty n' k' = sym f ∙ f' in
    let i : n ≡ n' = cc in
    let j : k ≡ k' = cc in
    same-fault i j

pub one_answer : (file : List ℕ) {h h' : Held} (r r' : Result Parsed Faulty) → ReadAs file h (said_parsed r) → ReadAs file h' (said_parsed r') → r ≡ r'
one_answer file r r' a b = same-parsed r r' (read-once file a b)

-- after a refusal the slices are equal too, where as many bytes were lent
same-zero : {s s' : List ℕ} → s ≡ replicate (length s) 0 → s' ≡ replicate (length s') 0 → length s ≡ length s' → s ≡ s'
same-zero a b e = a ∙ ap (λ (n : ℕ). replicate n 0) e ∙ sym b

same-held : {h h' : Held} → h.bytes ≡ h'.bytes → h.kinds ≡ h'.kinds → h.counts ≡ h'.counts → h.arities ≡ h'.arities → h.starts ≡ h'.starts → h.names ≡ h'.names → h.fields ≡ h'.fields → h.labels ≡ h'.labels → h.nodes ≡ h'.nodes → h.left ≡ h'.left → h.rows ≡ h'.rows → h ≡ h'
same-held {h} {h'} a b d e f g i j k l m =
    let e : held h.bytes h.kinds h.counts h.arities h.starts h.names h.fields h.labels h.nodes h.left h.rows ≡ held h'.bytes h'.kinds h'.counts h'.arities h'.starts h'.names h'.fields h'.labels h'.nodes h'.left h'.rows = rw (a, b, d, e, f, g, i, j, k, l, m) in e

pub one-refusal : (file : List ℕ) {h h' : Held} {n k : ℕ} → ReadAs file h (refuse n, k) → ReadAs file h' (refuse n, k) → length h.bytes ≡ length h'.bytes → h ≡ h'
one-refusal file (a_fault f z x) (a_fault f' z' x') e =
    same-held
    (same-zero x.bytes_zero x'.bytes_zero e)
    (same-zero x.kinds_zero x'.kinds_zero (z.kinds_long ∙ sym z'.kinds_long))
    (same-zero x.counts_zero x'.counts_zero (z.counts_long ∙ sym z'.counts_long))
    (same-zero x.arities_zero x'.arities_zero (z.arities_long ∙ sym z'.arities_long))
    (same-zero x.starts_zero x'.starts_zero (z.starts_long ∙ sym z'.starts_long))
    (same-zero x.names_zero x'.names_zero (z.names_long ∙ sym z'.names_long))
    (same-zero x.fields_zero x'.fields_zero (z.fields_long ∙ sym z'.fields_long))
    (same-zero x.labels_zero x'.labels_zero (z.labels_long ∙ sym z'.labels_long))
    (same-zero x.nodes_zero x'.nodes_zero (z.nodes_long ∙ sym z'.nodes_long))
    (same-zero x.left_zero x'.left_zero (z.left_long ∙ sym z'.left_long))
    (same-zero x.rows_zero x'.rows_zero (z.rows_long ∙ sym z'.rows_long))

-- a phase has one number
abbrev number : Phase → ℕ
number types = 0
number constructors = 1
number clauses = 2
number closed = 3

numbered : (n : ℕ) (p : Phase) → phase_of n ≡ some p → n ≡ number p
numbered zero p e = let i : types ≡ p = cc in ap number i
numbered (suc zero) p e = let i : constructors ≡ p = cc in ap number i
numbered (suc (suc zero)) p e = let i : clauses ≡ p = cc in ap number i
numbered (suc (suc (suc zero))) p e = let i : closed ≡ p = cc in ap number i
numbered (suc (suc (suc (suc n)))) p e = clash (cc)

-- so many fields as the table has
fields-are : {h : Held} {s : State} {σ : scope.State} → Says h s σ → s.fields ≡ length (all_fields 0 σ.block.table)
fields-are {h} {s} {σ} w =
    let o = w.holds in
    let l : s.fields ≤ length h.fields = omega (arith, o.short, o.types_are, o.shape.few, w.few, w.sized.fields_long) in
    sym (length-take-le s.fields h.fields l) ∙ ap length o.fielded.every

same-state : {s s' : State} → s.phase ≡ s'.phase → s.types ≡ s'.types → s.ctors ≡ s'.ctors → s.fields ≡ s'.fields → s.subject ≡ s'.subject → s.clauses ≡ s'.clauses → s.used ≡ s'.used → s.count ≡ s'.count → s ≡ s'
same-state {s} {s'} a b d e f g i j =
    let together : ℕ → ℕ → ℕ → ℕ → ℕ → ℕ → ℕ → ℕ → State = λ phase types ctors fields subject clauses used count. record { phase = phase; types = types; ctors = ctors; fields = fields; subject = subject; clauses = clauses; used = used; count = count } in
    let all : together s.phase s.types s.ctors s.fields s.subject s.clauses s.used s.count ≡ together s'.phase s'.types s'.ctors s'.fields s'.subject s'.clauses s'.used s'.count = rw (a, b, d, e, f, g, i, j) in all

-- whatever the slices, the numbers that say a state are the same
one_state : {h h' : Held} {s s' : State} {σ : scope.State} → Says h s σ → Says h' s' σ → s ≡ s'
one_state {s = s} {s' = s'} {σ = σ} w w' =
    same-state
    (numbered s.phase σ.phase w.phase_is ∙ sym (numbered s'.phase σ.phase w'.phase_is))
    (w.holds.types_are ∙ sym w'.holds.types_are)
    (w.holds.made-are ∙ sym w'.holds.made-are)
    (fields-are w ∙ sym (fields-are w'))
    (w.subject_is ∙ sym w'.subject_is)
    (w.clauses_are ∙ sym w'.clauses_are)
    (omega (arith, w.rows_are.packed, w.rows_are.counted, w'.rows_are.packed, w'.rows_are.counted))
    (w.rows_are.counted ∙ sym w'.rows_are.counted)

same-said : (r s : Result State Refusal) → said_step r ≡ said_step s → r ≡ s
same-said (Ok s) (Ok t) e = let i : s ≡ t = cc in ap Ok i
same-said (Ok s) (Err f) e = clash (cc)
same-said (Err f) (Ok s) e = clash (cc)
same-said (Err f) (Err g) e = let i : number_of f ≡ number_of g = cc in ap Err (numbers-once f g i)

stepped-once : {h h' : Held} {r r' : scope.Step State} {x x' : scope.Step scope.State} → Stepped h r x → Stepped h' r' x' → x ≡ x' → r ≡ r'
stepped-once {h' = h'} (goes {s = s} {σ = σ} w) (goes {s = s'} {σ = σ'} w') e = let i : σ' ≡ σ = cc in ap ok (one_state w (subst (λ (τ : scope.State). Says h' s' τ) i w'))
stepped-once (goes w) (stops n) e = clash (cc)
stepped-once (stops n) (goes w) e = clash (cc)
stepped-once (stops n) (stops m) e = let i : n ≡ m = cc in ap refuse i

-- a line has one answer, for slices and numbers that are known to say a state: every number of the answered state, its phase too, or the refusal
pub one-step : {h h₁ h₂ : Held} {s : State} (at : ℕ) (r₁ r₂ : Result State Refusal) → Known h s
    → ((σ : scope.State) → Says h s σ → Stepped h₁ (said_step r₁) (framed σ (drop at h.bytes)))
    → ((σ : scope.State) → Says h s σ → Stepped h₂ (said_step r₂) (framed σ (drop at h.bytes)))
    → r₁ ≡ r₂
one-step at r₁ r₂ k a b = same-said r₁ r₂ (stepped-once (a k.state k.says) (b k.state k.says) refl)
