-- What is made of a file, before any line is read and after a refusal.
use Rattle.std.specs.Prelude.{◌≡◌, replicate}
use Rattle.layout.specs.declared.tables.Store.{Store}

-- every array is zero everywhere
pub record BlankStore (s : Store) : Type 0 where
  pub bytes_zero : s.bytes ≡ replicate 24576 0
  pub kinds_zero : s.tables.kinds ≡ replicate 64 0
  pub counts_zero : s.tables.counts ≡ replicate 64 0
  pub arities_zero : s.tables.arities ≡ replicate 2048 0
  pub starts_zero : s.tables.starts ≡ replicate 2048 0
  pub names_zero : s.tables.names ≡ replicate 2048 0
  pub fields_zero : s.tables.fields ≡ replicate 5120 0
  pub labels_zero : s.tables.labels ≡ replicate 5120 0
  pub nodes_zero : s.rows.nodes ≡ replicate 4160 0
  pub left_zero : s.rows.left ≡ replicate 4160 0
  pub row_starts_zero : s.rows.starts ≡ replicate 64 0
