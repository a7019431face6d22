-- the answer: the reader's refusals, then the page
pub mod Alike
pub mod Answers
pub mod Demand1
-- what follows from the promise
pub mod Promise
-- the returns of the code
pub mod Written
pub mod Returns
