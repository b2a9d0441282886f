-- What the contracts of the missing walk say.
pub mod Ready
