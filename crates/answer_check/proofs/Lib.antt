pub mod AnswerChecks
