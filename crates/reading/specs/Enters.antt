-- What each frame does to the slices and the numbers.
use Rattle.std.specs.Prelude.{◌≡◌, true, false, List, ℕ, Result, Ok, Err, ◌+◌, ◌-◌, ◌%◌, ◌≤◌, ◌<◌, length, get_or, set, leb}
use Rattle.scope.specs.Limits.{max_nodes}
use Rattle.scope.specs.declared.refusal.Refusal.{Refusal}
use Rattle.scope.specs.declared.refusal.Refusal.TheVariants as why
use Rattle.layout.specs.declared.tables.Tables.{Tables}
use Rattle.table.specs.Build.{arity_in, WithCtor}
use Rattle.fresh.specs.Fresh.{is_fresh_in}
use Rattle.sound.specs.Sound.{is_sound_in}
use Rattle.suits.specs.declared.Unsuited.{Unsuited}
use Rattle.patterns.specs.Rows.{Ready, Simplifies}
use Rattle.order.specs.declared.State.{State}
use Rattle.order.specs.Phases.{Numbers}

-- one more constructor of the data type just above, or 7
pub data EntersCtor (bytes : List ℕ) (at : ℕ) (s : State) (counts arities starts names fields labels counts' arities' starts' names' fields' labels' : List ℕ) : Result State Refusal → Type 0 where
  stale : is_fresh_in bytes at names counts (s.types - 1) ≡ false → EntersCtor bytes at s counts arities starts names fields labels counts' arities' starts' names' fields' labels' (Err why.Table)
  fresh : {r : State} → is_fresh_in bytes at names counts (s.types - 1) ≡ true → Numbers r 1 s.types (s.ctors + 1) (s.fields + arity_in bytes at) 0 → WithCtor bytes at (s.types - 1) s.fields counts arities starts names fields labels counts' arities' starts' names' fields' labels'
      → EntersCtor bytes at s counts arities starts names fields labels counts' arities' starts' names' fields' labels' (Ok r)

-- the same in the tables, whose kinds stay
pub record CtorEnters (bytes : List ℕ) (at : ℕ) (s : State) (t t' : Tables) (r : Result State Refusal) : Type 0 where
  pub entered : EntersCtor bytes at s t.counts t.arities t.starts t.names t.fields t.labels t'.counts t'.arities t'.starts t'.names t'.fields t'.labels r
  pub kinds_stay : t'.kinds ≡ t.kinds

-- the subject, or 7
pub data EntersSubject (bytes : List ℕ) (at : ℕ) (s : State) (kinds counts arities starts fields : List ℕ) : Result State Refusal → Type 0 where
  unsound : is_sound_in kinds counts arities starts fields s.fields s.types (get_or bytes at 0) ≡ false → EntersSubject bytes at s kinds counts arities starts fields (Err why.Table)
  sound : {r : State} → is_sound_in kinds counts arities starts fields s.fields s.types (get_or bytes at 0) ≡ true → Numbers r 2 s.types s.ctors s.fields (get_or bytes at 0) → EntersSubject bytes at s kinds counts arities starts fields (Ok r)

-- after a clause of n nodes
pub record OneMore (s : State) (n : ℕ) (r : State) : Type 0 where
  pub phase_is : r.phase ≡ 2
  pub types_are : r.types ≡ s.types
  pub ctors_are : r.ctors ≡ s.ctors
  pub fields_are : r.fields ≡ s.fields
  pub subject_is : r.subject ≡ s.subject
  pub clauses_are : r.clauses ≡ s.clauses + 1
  pub used_is : r.used ≡ s.used + n + 1
  pub count_is : r.count ≡ s.count + n

-- one more row with a terminator, or 8, or 9
pub data EntersClause (bytes : List ℕ) (at : ℕ) (s : State) (kinds counts arities starts fields nodes left rows nodes' left' rows' : List ℕ) : Result State Refusal → Type 0 where
  unsuited : {nodes₁ left₁ : List ℕ} {e : Unsuited} → Simplifies bytes at kinds counts arities starts fields s.subject s.used nodes left nodes₁ left₁ (Err e) → EntersClause bytes at s kinds counts arities starts fields nodes left rows nodes' left' rows' (Err why.Suit)
  over : {nodes₁ left₁ : List ℕ} {n : ℕ} → Simplifies bytes at kinds counts arities starts fields s.subject s.used nodes left nodes₁ left₁ (Ok n) → leb (s.count + n) max_nodes ≡ false → EntersClause bytes at s kinds counts arities starts fields nodes left rows nodes' left' rows' (Err why.Nodes)
  row : {nodes₁ left₁ : List ℕ} {n : ℕ} {r : State} → Simplifies bytes at kinds counts arities starts fields s.subject s.used nodes left nodes₁ left₁ (Ok n) → leb (s.count + n) max_nodes ≡ true → nodes' ≡ set nodes₁ (s.used + n) 0 → left' ≡ set left₁ (s.used + n) 0 → rows' ≡ set rows s.clauses (s.used % 65536)
      → OneMore s n r → EntersClause bytes at s kinds counts arities starts fields nodes left rows nodes' left' rows' (Ok r)

-- what a clause asks of the bytes, the numbers and the rows so far
pub record ForClause (bytes : List ℕ) (at : ℕ) (s : State) (fields nodes : List ℕ) : Type 0 where
  pub ready : (stack : List ℕ) → 1920 ≤ length stack → Ready bytes at s.subject fields stack nodes s.used
  pub packed : s.used ≡ s.count + s.clauses
  pub few : s.clauses < 64
  pub short : s.count ≤ 4096

-- after the end only the phase is another
pub record Ended (s r : State) : Type 0 where
  pub phase_is : r.phase ≡ 3
  pub types_are : r.types ≡ s.types
  pub ctors_are : r.ctors ≡ s.ctors
  pub fields_are : r.fields ≡ s.fields
  pub subject_is : r.subject ≡ s.subject
  pub clauses_are : r.clauses ≡ s.clauses
  pub used_is : r.used ≡ s.used
  pub count_is : r.count ≡ s.count
