-- Rows and columns of numbers, as the table holds them, and what the contracts say.
pub mod Numbers
pub mod Places
