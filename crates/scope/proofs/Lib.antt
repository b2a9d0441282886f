-- Files computed from the definitions, P1 to P10 among them, what a limit comes to, the laws of an answer and a refusal, and that no two refusals have one number.
pub mod Tests
pub mod Limits
pub mod Compute
pub mod Calls
pub mod Telling
pub mod Held
pub mod Worked
pub mod Answers
pub mod Refusals
pub mod Driver
pub mod Numbers
