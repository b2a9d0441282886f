-- What a check promises, in one place to read: the clauses of a file, demand 3 over them, the words of a report, the mission, and what it shuts out; and what the
-- reports on two files share where clauses were moved (request 13).
pub mod Clauses
pub mod Words
pub mod Mission
pub mod Excluded
pub mod Reviews
pub mod Cheap
